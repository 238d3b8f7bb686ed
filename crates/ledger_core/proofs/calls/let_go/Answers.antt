use Rattle.std.proofs.Common.{◌≡◌, ◌<◌, length, get_or, set, cond, Some, refl, sym, ◌∙◌, ap, subst, arith}
use Rattle.std.proofs.lemmas.Option.{same_Some, slice_get-get_or}
use Rattle.ledger_history.specs.Histories.{is_let_go}
use Rattle.ledger_table.specs.Ledgers.{setup_of}
use Rattle.ledger_core.specs.Tokens.{Stock}
use Rattle.ledger_core.proofs.calls.let_go.Goals as goal

pub returns-then-is_let_go : goal.returns-then-is_let_go
returns-then-is_let_go g c = λ j e.
    let shelf = c.args.shelf.now in
    let i = c.in-Some.op in
    let none : Stock = record { op = 0; count = 0 } in
    let x = get_or shelf i none in
    let r = slice_get-get_or shelf i none (c.requires.there i c.in-Some.is) in
    let o : x.op ≡ i = c.requires.op i x c.in-Some.is r in
    let same : i ≡ j = same_Some i j (sym c.in-Some.is ∙ e) in
    let now : c.clear.new.self ≡ set shelf i (record { op = i; count = 0 }) = c.clear.ensures x r ∙ ap (λ k. set shelf i (record { op = k; count = 0 })) o in
    let gone = sym c.is_let_go.ensures ∙ c.if-is_let_go.true in
    subst (λ k. c.clear.new.self ≡ cond (is_let_go (setup_of c.args.table.now) c.args.table.now.events k) (set shelf k (record { op = k; count = 0 })) shelf) same
    (now ∙ sym (ap (λ b. cond b (set shelf i (record { op = i; count = 0 })) shelf) gone))
