use Rattle.std.proofs.Common.{◌*◌, ◌<◌, length, subst, arith}
use Rattle.ledger_table.specs.Working.Places.{IsReaderOf}
use Rattle.ledger_table.specs.Working.Openings.{Opening, walk}
use Rattle.ledger_table.proofs.Opening.{opening_starts, opening_goes_on, opens_all}
use Rattle.ledger_table.proofs.ready.open_readers.Goals as goal

pub overflow_cast-reader : goal.overflow_cast-reader
overflow_cast-reader c =
    let at = subst (λ o. IsReaderOf c.args.places.now c.args.op o) c.in-Some.is (c.loop-place.invariant).reader in
    let few = c.wires-wires.ensures.formed.few in
    let n : c.in-Some.reader < 2 * length c.args.places.now = at.0 in
    omega arith

pub loop-place-init : goal.loop-place-init
loop-place-init c = opening_starts _ _ _ _ _ c.last_reader-place.ensures c.requires.ready

pub loop-place-preserved : goal.loop-place-preserved
loop-place-preserved c =
    let at = subst (λ o. Opening (walk c.args.places.now c.args.marks.now c.args.op c.args.ready.now) o c.loop-place.ready) c.in-Some.is c.loop-place.invariant in
    let flags = rw c.wires-wires.ensures.same at c.open_reader.ensures.flags in
    opening_goes_on _ _ _ _ _ _ _ _ at flags c.open_reader.ensures.all c.earlier_reader-place.ensures

pub returns : goal.returns
returns c = λ budget workers w h l m f.
    let at = subst (λ o. Opening (walk c.args.places.now c.args.marks.now c.args.op c.args.ready.now) o c.loop-place.ready) c.in_default.is c.loop-place.invariant in
    opens_all _ h w _ _ (at.opens budget workers w h l m f)
