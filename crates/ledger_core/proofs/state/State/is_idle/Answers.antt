use Rattle.std.proofs.Common.{◌≡◌, ◌↔◌, ℕ, IsTrue, Some, subst}
use Rattle.std.specs.Prelude.{slice_get}
use Rattle.ledger_core.specs.declared.condition.Condition.{Condition}
use Rattle.ledger_core.specs.declared.condition.Condition.TheVariants.{Idle}
use Rattle.ledger_core.specs.Machines.{IsIdle}
use Rattle.ledger_core.proofs.state.State.is_idle.Goals as goal

pub returns : goal.returns
returns g c =
    let a = subst (λ l. IsTrue c.all_idle.result ↔ ((w : ℕ) (d : Condition) → slice_get l w ≡ Some d → d ≡ Idle)) c.deref.ensures.value c.all_idle.ensures in
    subst (λ m. IsTrue c.all_idle.result ↔ IsIdle m) c.self.view_is a
