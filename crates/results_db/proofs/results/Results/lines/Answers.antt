use Rattle.std.proofs.Common.{ap, ◌∙◌, subst, ◌≡◌, true, is_some}
use Rattle.std.proofs.lemmas.Result.{on_ok_weaker}
use Rattle.results_db.specs.Working.Steps.{with_lines}
use Rattle.results_db.proofs.Steps.{output_kept}
use Rattle.results_db.proofs.results.Results.lines.Goals as goal

pub returns-clause-report : goal.returns-clause-report
returns-clause-report c = λ making e. on_ok_weaker c.add.result
    (λ same. same ∙ (ap (λ k. with_lines k c.args.lines.now) e ∙ output_kept making c.args.lines.now (subst (λ k. is_some k.open_check ≡ true) e c.requires.begun)))
    c.add.ensures
