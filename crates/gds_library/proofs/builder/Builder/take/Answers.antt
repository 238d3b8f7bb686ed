use Rattle.std.proofs.Common.{◌≡◌, ◌∙◌, sym, ap, List, [], ◌∷◌, ◌++◌}
use Rattle.gds_records.specs.Records.{Item}
use Rattle.gds_records.specs.Stream.{item_of}
use Rattle.gds_library.specs.Drafts.{first_draft, step, steps}
use Rattle.gds_library.proofs.Drafting.{steps-append}
use Rattle.gds_library.proofs.builder.Builder.take.Goals as goal

pub returns-clause-taken : goal.returns-clause-taken
returns-clause-taken c = λ items follows.
    let item = item_of c.args.item in
    let keep = c.args.self.now.keep in
    record {
      standing = follows.standing;
      checked = c.in_default.ensures.taken items follows.checked;
      names = c.in_ok-is_new.ensures.new c.if-not-branch.false items follows.names;
      draft = c.in_ok-take.ensures ∙ ap (step keep item) follows.draft ∙ sym (steps-append keep items (item ∷ []) first_draft);
    }
