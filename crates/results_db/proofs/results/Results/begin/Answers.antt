use Rattle.std.proofs.Common.{ap, ◌∙◌}
use Rattle.std.proofs.lemmas.Result.{on_ok_weaker}
use Rattle.results_db.specs.Working.Steps.{closed, with_name}
use Rattle.results_db.proofs.Steps.{begun_kept}
use Rattle.results_db.proofs.results.Results.begin.Goals as goal

pub returns-clause-report : goal.returns-clause-report
returns-clause-report c = λ making e. on_ok_weaker c.open_check.result
    (λ same. same ∙ (ap (λ k. with_name k c.args.name.now c.args.notes.now) (c.in_ok-close.ensures ∙ ap closed e) ∙ begun_kept making c.args.name.now c.args.notes.now))
    c.open_check.ensures
