use Rattle.std.proofs.Common.{ap, ◌∙◌, None}
use Rattle.deck_cursor.specs.Inside.{IsUpcoming}
use Rattle.deck_cursor.specs.Places.{kind_in}
use Rattle.deck_refusal.proofs.Reading.{at_start, goes_over, goes_wrong, at_end_wrong, at_end_well}
use Rattle.deck_refusal.proofs.whole.first_wrong.Goals as goal

pub loop-token-init : goal.loop-token-init
loop-token-init c = at_start c.args.text.now c.in_ok-walk.walk c.requires c.in_ok-walk.ensures

pub returns-in-Wrong-clause-some : goal.returns-in-Wrong-clause-some
returns-in-Wrong-clause-some c =
    let token = c.in-Some.token in
    goes_wrong c.args.text.now c.loop-token.at c.loop-token.walk token c.kind_in-kind.result c.in_ok-next.field-0
    c.upcoming.result
    c.loop-token.invariant c.in-Some.is c.upcoming.ensures (c.kind_in-kind.ensures
    ∙ ap (kind_in token.kind) c.bytes_of.ensures)
    c.in_ok-next.ensures c.in-Wrong.kind c.in-Wrong.is

pub loop-token-preserved : goal.loop-token-preserved
loop-token-preserved c =
    let token = c.in-Some.token in
    goes_over c.args.text.now c.loop-token.at c.loop-token.walk token c.kind_in-kind.result c.in_ok-next.field-0
    c.upcoming.result
    c.loop-token.invariant c.in-Some.is c.upcoming.ensures (c.kind_in-kind.ensures
    ∙ ap (kind_in token.kind) c.bytes_of.ensures)
    c.in_ok-next.ensures c.in-Over.next c.in-Over.is

pub returns-clause-some : goal.returns-clause-some
returns-clause-some c =
    let none : IsUpcoming c.args.text.now c.loop-token.at None = c.in_default.ensures in
    at_end_wrong c.args.text.now c.loop-token.at c.loop-token.walk c.at_end.result c.loop-token.invariant none
    c.at_end.ensures

pub returns-clause-none : goal.returns-clause-none
returns-clause-none c =
    let none : IsUpcoming c.args.text.now c.loop-token.at None = c.in_default.ensures in
    at_end_well c.args.text.now c.loop-token.at c.loop-token.walk c.at_end.result c.loop-token.invariant none
    c.at_end.ensures
