use Rattle.std.proofs.Common.{ℕ, ◌+◌, ◌<◌, length, sym, ap, subst, arith}
use Rattle.std.proofs.lemmas.Option.{slice_get-get_or}
use Rattle.std.proofs.Common.{get_or, Some, ◌≡◌, ◌∙◌}
use Rattle.std.specs.Prelude.{slice_get}
use Rattle.layer_model.specs.Wirings.{one_if_at}
use Rattle.ledger_core.specs.States.{StocksWith}
use Rattle.ledger_core.proofs.Stocks.{one_lent}
use Rattle.ledger_core.proofs.shelf.Shelf.lend.Goals as goal

pub returns-in-Some-clause-stocks : goal.returns-in-Some-clause-stocks
returns-in-Some-clause-stocks g c = λ s h places p.
    let items = c.self.inside.stocks.items in
    let there : c.in-Some.op < length items = subst (λ l. c.in-Some.op < length l) (sym c.self.view_is) (c.requires.there c.in-Some.op c.in-Some.is) in
    let q = subst (λ l. StocksWith s h (λ m. one_if_at c.args.input m + places m) l) (sym c.self.view_is) p in
    let x = c.index_mut-stock.result.now in
    let read : slice_get items c.in-Some.op ≡ Some x = slice_get-get_or items c.in-Some.op x there ∙ ap (λ z. Some z) (sym c.index_mut-stock.ensures.value) in
    one_lent s h places items c.in-Some.op x c.take.new.self read c.take.ensures.rest
    (subst (λ o. StocksWith s h (λ m. one_if_at o m + places m) items) c.in-Some.is q)
