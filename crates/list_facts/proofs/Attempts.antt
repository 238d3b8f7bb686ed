-- The laws of steps each of which may fail.
use Rattle.std.proofs.Common.{◌≡◌, refl, ap}
use Rattle.std.specs.Prelude.{Option, None, Some}
use Rattle.list_facts.specs.Attempts.{◌>>=◌}

-- what a step found that did not fail, and what the rest made of it
pub found_by : {A B : Type 0} (o : Option A) (next : A → Option B) (y : B) → (o >>= next) ≡ Some y → (x : A) × (o ≡ Some x) × (next x ≡ Some y)
found_by (Some x) next y e = (x, refl, e)
found_by None next y e = absurd cc

pub goes_on : {A B : Type 0} (o : Option A) (next : A → Option B) (x : A) → o ≡ Some x → (o >>= next) ≡ next x
goes_on o next x e = ap (λ p. p >>= next) e

pub fails : {A B : Type 0} (o : Option A) (next : A → Option B) → o ≡ None → (o >>= next) ≡ None
fails o next e = ap (λ p. p >>= next) e

pub attempts_assoc : {A B C : Type 0} (o : Option A) (f : A → Option B) (g : B → Option C) → ((o >>= f) >>= g) ≡ (o >>= (λ x. f x >>= g))
attempts_assoc (Some x) f g = refl
attempts_assoc None f g = refl

pub none_unless : {A : Type 0} (o : Option A) → ((x : A) → o ≡ Some x → ⊥) → o ≡ None
none_unless None h = refl
none_unless (Some x) h = absurd (h x refl)
