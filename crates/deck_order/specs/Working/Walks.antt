-- How far a walk has come: what is closed, what is open in groups, and the way.
use Rattle.std.specs.Prelude.{◌≡◌, ◌⊎◌, ◌↔◌, ℕ, ◌+◌, ◌-◌, ◌<◌, ◌≤◌, Bool, true, List, [], ◌∷◌, ◌++◌, length, take, None, Some, slice_get, slice_set}
use Rattle.std.specs.Global.{Vec}
use Rattle.deck_order.specs.declared.mark.Mark.{Mark}
use Rattle.deck_order.specs.declared.mark.Mark.TheVariants.{Unseen, Open, Closed}
use Rattle.deck_order.specs.declared.step.Step.{Step}
use Rattle.deck_order.specs.declared.walk.Walk.{Walk}
use Rattle.deck_order.specs.Uses.{used_by, IsUse, Leads}

-- the parts of a walk
pub record Stage : Type 0 where
  pub marks : List Mark
  pub pending : List ℕ
  pub bounds : List ℕ
  pub path : List Step
  pub listed : List ℕ
  pub cyclic : List Bool

abbrev pub stage_of : Walk → Stage
stage_of w = record {
  marks = w.marks.items;
  pending = w.pending.items;
  bounds = w.bounds.items;
  path = w.path.items;
  listed = w.listed.items;
  cyclic = w.cyclic.items;
}

-- the marks say which definitions are open, and at which place, and which are listed
pub record IsMarked (s : Stage) : Type 0 where
  pub open_marked : (a u : ℕ) → slice_get s.pending a ≡ Some u → slice_get s.marks u ≡ Some (Open a)
  pub marked_open : (a u : ℕ) → slice_get s.marks u ≡ Some (Open a) → slice_get s.pending a ≡ Some u
  pub listed_marked : (k u : ℕ) → slice_get s.listed k ≡ Some u → slice_get s.marks u ≡ Some Closed
  pub marked_listed : (u : ℕ) → slice_get s.marks u ≡ Some Closed → (k : ℕ) × (slice_get s.listed k ≡ Some u)
  pub once : (j k u : ℕ) → slice_get s.listed j ≡ Some u → slice_get s.listed k ≡ Some u → j ≡ k

-- no group begins behind place b and up to place a
abbrev pub NoneBegins : List ℕ → (b a : ℕ) → Type 0
NoneBegins bounds b a = (m c : ℕ) → slice_get bounds m ≡ Some c → b < c → c ≤ a → ⊥

-- an open definition leads to each that is open behind it, and to each of its group
pub record IsGrouped (uses : List (Vec ℕ)) (s : Stage) : Type 0 where
  pub up : (a b u v : ℕ) → slice_get s.pending a ≡ Some u → slice_get s.pending b ≡ Some v → a < b → Leads uses u v
  pub back : (a b u v : ℕ) → slice_get s.pending a ≡ Some u → slice_get s.pending b ≡ Some v → b < a → NoneBegins s.bounds b a → Leads uses u v
  pub first : (u : ℕ) → slice_get s.pending 0 ≡ Some u → slice_get s.bounds 0 ≡ Some 0

-- the way goes up, and each group begins with a definition on it
pub record IsWay (s : Stage) : Type 0 where
  pub there : (m : ℕ) (f : Step) → slice_get s.path m ≡ Some f → slice_get s.pending f.at ≡ Some f.definition
  pub rises : (l m : ℕ) (f g : Step) → l < m → slice_get s.path l ≡ Some f → slice_get s.path m ≡ Some g → f.at < g.at
  pub begins : (m c : ℕ) → slice_get s.bounds m ≡ Some c → (l : ℕ) × (f : Step) × (slice_get s.path l ≡ Some f) × (f.at ≡ c)
  pub bounds_rise : (l m c d : ℕ) → l < m → slice_get s.bounds l ≡ Some c → slice_get s.bounds m ≡ Some d → c < d

-- wherever definition u stands on the way, its use at this place was looked at
abbrev pub IsPast : List Step → (u place : ℕ) → Type 0
IsPast path u place = (m : ℕ) (f : Step) → slice_get path m ≡ Some f → f.definition ≡ u → place < f.next

-- a definition that one at place a of the open ones uses is closed, or open in its group or behind it
abbrev pub IsMet : Stage → (a v : ℕ) → Type 0
IsMet s a v = (slice_get s.marks v ≡ Some Closed) ⊎ ((b : ℕ) × (slice_get s.marks v ≡ Some (Open b)) × NoneBegins s.bounds b a)

-- each use of an open definition that was looked at is met
abbrev pub AreMet : List (Vec ℕ) → Stage → Type 0
AreMet uses s = (a u p v : ℕ) → slice_get s.pending a ≡ Some u → slice_get (used_by uses u) p ≡ Some v → IsPast s.path u p → IsMet s a v

-- what is closed uses what is closed, stands behind it where that doesn't lead back, and its flag tells whether it leads
-- back to itself
pub record IsClosed (uses : List (Vec ℕ)) (s : Stage) : Type 0 where
  pub inward : (u v : ℕ) → slice_get s.marks u ≡ Some Closed → IsUse uses u v → slice_get s.marks v ≡ Some Closed
  pub behind : (k u v : ℕ) → slice_get s.listed k ≡ Some u → IsUse uses u v → (Leads uses v u → ⊥) → (m : ℕ) × (m < k) × (slice_get s.listed m ≡ Some v)
  pub tells : (u : ℕ) (b : Bool) → slice_get s.marks u ≡ Some Closed → slice_get s.cyclic u ≡ Some b → (b ≡ true) ↔ Leads uses u u

pub record IsWalk (uses : List (Vec ℕ)) (s : Stage) : Type 0 where
  pub marks_all : length s.marks ≡ length uses
  pub flags_all : length s.cyclic ≡ length uses
  pub marked : IsMarked s
  pub grouped : IsGrouped uses s
  pub way : IsWay s
  pub met : AreMet uses s
  pub closed : IsClosed uses s

-- ---- Steps

-- the parts where one more definition is open
abbrev pub entered : Stage → ℕ → Stage
entered s v = record {
  marks = slice_set s.marks v (Open (length s.pending));
  pending = s.pending ++ v ∷ [];
  bounds = s.bounds ++ length s.pending ∷ [];
  path = s.path ++ record { definition = v; at = length s.pending; next = 0 } ∷ [];
  listed = s.listed;
  cyclic = s.cyclic;
}

-- the way, where one more use of its last definition was looked at
abbrev pub looked : List Step → List Step
looked [] = []
looked (f ∷ []) = record { definition = f.definition; at = f.at; next = f.next + 1 } ∷ []
looked (f ∷ g ∷ fs) = f ∷ looked (g ∷ fs)

-- the parts where the way is shorter
abbrev pub left : Stage → List Step → Stage
left s path = record { marks = s.marks; pending = s.pending; bounds = s.bounds; path = path; listed = s.listed; cyclic = s.cyclic }

-- the parts where one more use was looked at, and these bounds are left
abbrev pub seen_more : Stage → List ℕ → Stage
seen_more s bounds = record { marks = s.marks; pending = s.pending; bounds = bounds; path = looked s.path; listed = s.listed; cyclic = s.cyclic }

-- no bound above a place is left
pub record IsJoined (at : ℕ) (old new : List ℕ) : Type 0 where
  pub kept : ℕ
  pub front : new ≡ take kept old
  pub above : (m c : ℕ) → kept ≤ m → slice_get old m ≡ Some c → at < c
  pub last : (m c : ℕ) → m + 1 ≡ length new → slice_get new m ≡ Some c → c ≤ at

-- the last step of the way
abbrev pub IsLast : List Step → Step → Type 0
IsLast path f = (m : ℕ) × (m + 1 ≡ length path) × (slice_get path m ≡ Some f)

-- the bounds that are left where a use of a definition with this mark is passed
abbrev pub AreLeft : Mark → (old new : List ℕ) → Type 0
AreLeft Unseen old new = new ≡ old
AreLeft (Open at) old new = IsJoined at old new
AreLeft Closed old new = new ≡ old

pub record IsPassed (old new : Stage) (m : Mark) : Type 0 where
  pub stage : new ≡ seen_more old new.bounds
  pub bounds : AreLeft m old.bounds new.bounds

-- while bounds are dropped: those from some place on were above
pub record IsJoining (at : ℕ) (old new : List ℕ) : Type 0 where
  pub kept : ℕ
  pub within : kept ≤ length old
  pub front : new ≡ take kept old
  pub above : (m c : ℕ) → kept ≤ m → slice_get old m ≡ Some c → at < c

-- how many uses of the last definition on the way weren't looked at
abbrev pub left_to_look : List (Vec ℕ) → List Step → ℕ
left_to_look uses [] = 0
left_to_look uses (f ∷ []) = length (used_by uses f.definition) - f.next
left_to_look uses (f ∷ g ∷ fs) = left_to_look uses (g ∷ fs)

-- a walk may open this definition: the way is empty, or its last definition uses it
abbrev pub MayOpen : List (Vec ℕ) → List Step → ℕ → Type 0
MayOpen uses path v = (path ≡ []) ⊎ ((f : Step) × IsLast path f × IsUse uses f.definition v)

-- all uses of the last definition on the way were looked at
abbrev pub HasNoMore : List (Vec ℕ) → List Step → Type 0
HasNoMore uses path = (f : Step) → IsLast path f → slice_get (used_by uses f.definition) f.next ≡ None

abbrev pub IsSeen : List Mark → ℕ → Type 0
IsSeen marks u = (m : Mark) × (slice_get marks u ≡ Some m) × (m ≡ Unseen → ⊥)

-- what was come to stays so, and what is closed stays closed
pub record GoesOn (old new : List Mark) : Type 0 where
  pub seen : (u : ℕ) → IsSeen old u → IsSeen new u
  pub closed : (u : ℕ) → slice_get old u ≡ Some Closed → slice_get new u ≡ Some Closed

-- how many definitions the walk hasn't come to
abbrev pub unseen : List Mark → ℕ
unseen [] = 0
unseen (Unseen ∷ ms) = unseen ms + 1
unseen (Open a ∷ ms) = unseen ms
unseen (Closed ∷ ms) = unseen ms
