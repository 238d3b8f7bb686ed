-- Where uses lead.
use Rattle.std.proofs.Common.{ℕ, List}
use Rattle.std.specs.Global.{Vec}
use Rattle.deck_order.specs.Uses.{IsUse, Leads, at_once, by}

pub onward : {uses : List (Vec ℕ)} {i j k : ℕ} → Leads uses i j → Leads uses j k → Leads uses i k
onward (at_once u) m = by u m
onward (by u l) m = by u (onward l m)

-- what is kept by each use is kept wherever uses lead
pub kept : {uses : List (Vec ℕ)} {i j : ℕ} (P : ℕ → Type 0) → ((u v : ℕ) → P u → IsUse uses u v → P v) → P i → Leads uses i j → P j
kept P keeps p (at_once u) = keeps _ _ p u
kept P keeps p (by u l) = kept P keeps (keeps _ _ p u) l
