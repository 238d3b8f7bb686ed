use Rattle.std.proofs.Common.{rules, ◌++◌, ◌∷◌, [], ℕ, List, IsTrue, ap, sym, subst, ◌∙◌}
use Rattle.gds_records.specs.Stream.{Stream, item_of}
use Rattle.gds_records.specs.declared.fault.LayoutKind.TheVariants as kinds
use Rattle.drc_cli.specs.declared.layout.reader.Reader.{Reader}
use Rattle.drc_cli.specs.declared.layout.reader.Stop.TheVariants.{Refused}
use Rattle.drc_cli.specs.Working.LayoutReading.{Sought, HasStopped}
use Rattle.drc_cli.proofs.LayoutSteps.{when_taken, when_not_built}
use Rattle.drc_cli.proofs.layout.reader.Reader.step.Goals as goal

pub returns-then-branch-clause-taken : goal.returns-then-branch-clause-taken
returns-then-branch-clause-taken c = λ fed items state.
    let of : Sought = record { primary = c.args.primary.now; number = c.args.number } in
    let item = item_of c.in-Ok-Some.taken in
    let took = rw c.in-Ok-Some.field-0-is at c.in-Ok-Some.ensures.taken in
    let went = c.in_ok-accept-in-Ok-Some.ensures in
    let yes : IsTrue c.in_ok-accept-in-Ok-Some.field-0 = search rules in
    let same = c.accept.ensures.framer in (
      items ++ item ∷ [],
      when_taken of fed items c.args.self.now state item c.take.new.self.left took.0 took.1 took.2 took.3 c.accept.new.self
          (ap (λ (s : Stream). s.at) same ∙ took.4) (ap (λ (s : Stream). s.left) same) (ap (λ (s : Stream). s.ended) same ∙ took.5)
          (went.stands yes) (went.slot yes) (went.rects yes),
    )

pub returns-in-Ok-Some-clause-taken : goal.returns-in-Ok-Some-clause-taken
returns-in-Ok-Some-clause-taken c = λ fed items state.
    let of : Sought = record { primary = c.args.primary.now; number = c.args.number } in
    let item = item_of c.in-Ok-Some.taken in
    let took = rw c.in-Ok-Some.field-0-is at c.in-Ok-Some.ensures.taken in
    let went = c.in_ok-accept-in-Ok-Some.ensures in
    let P : Reader → Type 0 = λ r. (more : List ℕ) → HasStopped of (fed ++ more) r.rects.items (Refused (record { at = item.at; kind = kinds.NotBuilt })) in
    let stopped = when_not_built of fed items c.args.self.now state item c.take.new.self.left took.0 took.1 took.2 took.3 (went.refused c.if-branch.false) in
    rw c.not_built.ensures (subst P (sym (went.same c.if-branch.false)) stopped)
