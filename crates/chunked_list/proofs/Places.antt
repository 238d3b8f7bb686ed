-- Places in chunks: how the items before one and behind it make the list, and what writing over a chunk makes of them.
use Rattle.std.proofs.Common.{◌≡◌, inl, inr, Bool, true, cond, ltb, ℕ, zero, suc, ◌+◌, ◌-◌, ◌<◌, ◌≤◌, List, [], ◌∷◌, ◌++◌, length, take, drop, get_or, slice_get, refl, sym, subst, ap, ◌∙◌, append_assoc, arith}
use Rattle.std.proofs.lemmas.List.{append-nil, drop_more, nil_from_length, drop-append-le, drop-drop, take_all, drop_all, length-append, length-drop, length-take-le}
use Rattle.std.proofs.Math.ListN.{set}
use Rattle.std.proofs.lemmas.Bool.{cases_lt}
use Rattle.std.proofs.lemmas.Bool.Decides.{nat_tests}
use Rattle.std.specs.Global.{Vec}
use Rattle.std.specs.List.{before_first, position_or_len, insert, filter}
use mathlib.Core.Bool.{true≢false}
use Rattle.list_facts.proofs.Tests.{by_test}
use Rattle.chunked_list.specs.Chunks.{joined, AreFull}
use Rattle.chunked_list.specs.Stretches.{from_first, last, IsMonotone}
use Rattle.chunked_list.specs.Working.Places.{items_of, lead, trail, before_place, behind_place, replaced, begins_passed, IsAround, change, IsWrittenOver}
use Rattle.chunked_list.proofs.Stretches.{AllFail, IsStop, all_before, before_behind, before_ended, before_join, fails_before, from_behind, from_join, past_failed}

drop_past : {Y : Type 0} (n : ℕ) (xs ys : List Y) → length xs ≤ n → drop n (xs ++ ys) ≡ drop (n - length xs) ys
drop_past n [] ys h = let e : n - 0 ≡ n = omega arith in ap (λ m. drop m ys) (sym e)
drop_past zero (x ∷ xs) ys h = absurd (omega arith)
drop_past (suc n) (x ∷ xs) ys h =
    let e : suc n - suc (length xs) ≡ n - length xs = omega arith in
    drop_past n xs ys (omega arith) ∙ ap (λ m. drop m ys) (sym e)

module _ {X : Type 0} where
  -- ---- what stands at a place

  pub items_at : (cs : List (Vec X)) (k : ℕ) (d : Vec X) → k < length cs → items_of cs k ≡ (get_or cs k d).items
  items_at [] k d l = absurd (omega arith)
  items_at (c ∷ cs) zero d l = refl
  items_at (c ∷ cs) (suc k) d l = items_at cs k d (omega arith)

  pub parts : (cs : List (Vec X)) (k : ℕ) → k < length cs → joined cs ≡ lead cs k ++ (items_of cs k ++ trail cs k)
  parts [] k l = absurd (omega arith)
  parts (c ∷ cs) zero l = refl
  parts (c ∷ cs) (suc k) l =
      ap (λ xs. c.items ++ xs) (parts cs k (omega arith)) ∙ sym (append_assoc c.items (lead cs k) (items_of cs k ++ trail cs k))

  pub full_at : (cs : List (Vec X)) (k : ℕ) → k < length cs → AreFull cs → 0 < length (items_of cs k)
  full_at [] k l f = absurd (omega arith)
  full_at (c ∷ cs) zero l f = f.0
  full_at (c ∷ cs) (suc k) l f = full_at cs k (omega arith) f.1

  -- ---- the next chunk

  pub lead_next : (cs : List (Vec X)) (k : ℕ) → k < length cs → lead cs (k + 1) ≡ lead cs k ++ items_of cs k
  lead_next [] k l = absurd (omega arith)
  lead_next (c ∷ []) zero l = append-nil c.items
  lead_next (c ∷ b ∷ cs) zero l = append-nil c.items
  lead_next (c ∷ cs) (suc k) l =
      let e : suc k + 1 ≡ suc (k + 1) = omega arith in
      ap (lead (c ∷ cs)) e
      ∙ (ap (λ xs. c.items ++ xs) (lead_next cs k (omega arith)) ∙ sym (append_assoc c.items (lead cs k) (items_of cs k)))

  pub trail_next : (cs : List (Vec X)) (k : ℕ) → k + 1 < length cs → trail cs k ≡ items_of cs (k + 1) ++ trail cs (k + 1)
  trail_next [] k l = absurd (omega arith)
  trail_next (c ∷ []) zero l = absurd (omega arith)
  trail_next (c ∷ b ∷ cs) zero l = refl
  trail_next (c ∷ cs) (suc k) l =
      let e : suc k + 1 ≡ suc (k + 1) = omega arith in
      trail_next cs k (omega arith) ∙ ap (λ n. items_of (c ∷ cs) n ++ trail (c ∷ cs) n) (sym e)

  pub trail_last : (cs : List (Vec X)) (k : ℕ) → k + 1 ≡ length cs → trail cs k ≡ []
  trail_last [] k l = absurd (omega arith)
  trail_last (c ∷ []) zero l = refl
  trail_last (c ∷ b ∷ cs) zero l = absurd (omega arith)
  trail_last (c ∷ cs) (suc k) l = trail_last cs k (omega arith)

  -- the chunks behind one, as their own list
  pub trail_drop : (cs : List (Vec X)) (k : ℕ) → joined (drop (k + 1) cs) ≡ trail cs k
  trail_drop [] zero = refl
  trail_drop [] (suc k) =
      let none : List (Vec X) = [] in
      let e : suc k + 1 ≡ suc (k + 1) = omega arith in
      ap (λ n. joined (drop n none)) e
  trail_drop (c ∷ cs) zero = refl
  trail_drop (c ∷ cs) (suc k) =
      let e : suc k + 1 ≡ suc (k + 1) = omega arith in
      ap (λ n. joined (drop n (c ∷ cs))) e ∙ trail_drop cs k

  -- ---- a chunk written over

  pub items_set : (cs : List (Vec X)) (k : ℕ) (v : Vec X) → k < length cs → items_of (set cs k v) k ≡ v.items
  items_set [] k v l = absurd (omega arith)
  items_set (c ∷ cs) zero v l = refl
  items_set (c ∷ cs) (suc k) v l = items_set cs k v (omega arith)

  pub lead_set : (cs : List (Vec X)) (k : ℕ) (v : Vec X) → lead (set cs k v) k ≡ lead cs k
  lead_set [] k v = refl
  lead_set (c ∷ cs) zero v = refl
  lead_set (c ∷ cs) (suc k) v = ap (λ xs. c.items ++ xs) (lead_set cs k v)

  pub trail_set : (cs : List (Vec X)) (k : ℕ) (v : Vec X) → trail (set cs k v) k ≡ trail cs k
  trail_set [] k v = refl
  trail_set (c ∷ cs) zero v = refl
  trail_set (c ∷ cs) (suc k) v = trail_set cs k v

  pub full_set : (cs : List (Vec X)) (k : ℕ) (v : Vec X) → AreFull cs → 0 < length v.items → AreFull (set cs k v)
  full_set [] k v f l = tt
  full_set (c ∷ cs) zero v f l = (l, f.1)
  full_set (c ∷ cs) (suc k) v f l = (f.0, full_set cs k v f.1 l)

  pub length_set : (cs : List (Vec X)) (k : ℕ) (v : Vec X) → length (set cs k v) ≡ length cs
  length_set [] k v = refl
  length_set (c ∷ cs) zero v = refl
  length_set (c ∷ cs) (suc k) v = ap suc (length_set cs k v)

  -- ---- one chunk more

  pub joined_insert : (cs : List (Vec X)) (k : ℕ) (v w : Vec X) → k < length cs → v.items ++ w.items ≡ items_of cs k → joined (insert (set cs k v) (k + 1) w) ≡ joined cs
  joined_insert [] k v w l e = absurd (omega arith)
  joined_insert (c ∷ cs) zero v w l e = sym (append_assoc v.items w.items (joined cs)) ∙ ap (λ xs. xs ++ joined cs) e
  joined_insert (c ∷ cs) (suc k) v w l e =
      let q : suc k + 1 ≡ suc (k + 1) = omega arith in
      ap (λ n. joined (insert (set (c ∷ cs) (suc k) v) n w)) q ∙ ap (λ xs. c.items ++ xs) (joined_insert cs k v w (omega arith) e)

  pub full_insert : (cs : List (Vec X)) (k : ℕ) (w : Vec X) → AreFull cs → 0 < length w.items → AreFull (insert cs k w)
  full_insert [] zero w f l = (l, tt)
  full_insert [] (suc k) w f l = (l, tt)
  full_insert (c ∷ cs) zero w f l = (l, f)
  full_insert (c ∷ cs) (suc k) w f l = (f.0, full_insert cs k w f.1 l)

  -- ---- where the first item that passes stands

  none_before : (p : X → Bool) (cs : List (Vec X)) → AllFail p (lead cs 0)
  none_before p [] = tt
  none_before p (c ∷ cs) = tt

  none_lead : (cs : List (Vec X)) → lead cs 0 ≡ []
  none_lead [] = refl
  none_lead (c ∷ cs) = refl

  begins_first : (p : X → Bool) (xs ys : List X) → 0 < length xs → begins_passed p (xs ++ ys) ≡ begins_passed p xs
  begins_first p [] ys l = absurd (omega arith)
  begins_first p (x ∷ xs) ys l = refl

  begins_join : (p : X → Bool) (xs ys : List X) → begins_passed p xs ≡ true → begins_passed p (xs ++ ys) ≡ true
  begins_join p [] ys e = absurd (true≢false (sym e))
  begins_join p (x ∷ xs) ys e = e

  -- a chunk that begins with an item that passes is there
  within_passed : (p : X → Bool) (cs : List (Vec X)) (k : ℕ) → begins_passed p (items_of cs k) ≡ true → k < length cs
  within_passed p [] k e = absurd (true≢false (sym e))
  within_passed p (c ∷ cs) zero e = omega arith
  within_passed p (c ∷ cs) (suc k) e = let l = within_passed p cs k e in omega arith

  module _ (p : X → Bool) (cs : List (Vec X)) (k : ℕ) (full : AreFull cs) (order : IsMonotone p (joined cs)) (around : IsAround p cs k) where
    lead_fails : AllFail p (lead cs k)
    lead_fails =
        elim around.lower [
          | inl e ↦ subst (λ n. AllFail p (lead cs n)) (sym e) (none_before p cs)
          | inr e ↦
              fails_before p (lead cs k) (items_of cs k ++ trail cs k) (subst (IsMonotone p) (parts cs k around.within) order)
              (let l = full_at cs k around.within full in omega (arith, length-append (items_of cs k) (trail cs k)))
              (begins_first p (items_of cs k) (trail cs k) (full_at cs k around.within full) ∙ e)
        ]

    trail_stops : IsStop p (trail cs k)
    trail_stops =
        elim around.upper [
          | inl e ↦ inl (ap length (trail_last cs k e))
          | inr e ↦ inr (ap (begins_passed p) (trail_next cs k (within_passed p cs (k + 1) e)) ∙ (begins_join p (items_of cs (k + 1)) (trail cs (k + 1)) e))
        ]

    -- only before the first chunk an item that passes may stand first
    pub none_before_first : position_or_len p (items_of cs k) ≡ 0 → lead cs k ≡ []
    none_before_first e =
        elim around.lower [
          | inl z ↦ ap (lead cs) z ∙ none_lead cs
          | inr f ↦ absurd (past_failed p (items_of cs k) (full_at cs k around.within full) f e)
        ]

    pub before_found : before_first p (joined cs) ≡ before_place cs k (position_or_len p (items_of cs k))
    before_found =
        ap (before_first p) (parts cs k around.within)
        ∙ (before_behind p (lead cs k) (items_of cs k ++ trail cs k) lead_fails
        ∙ ap (λ xs. lead cs k ++ xs) (before_join p (items_of cs k) (trail cs k) trail_stops))

    pub from_found : from_first p (joined cs) ≡ behind_place cs k (position_or_len p (items_of cs k))
    from_found =
        ap (from_first p) (parts cs k around.within)
        ∙ (from_behind p (lead cs k) (items_of cs k ++ trail cs k) lead_fails
        ∙ from_join p (items_of cs k) (trail cs k) trail_stops)

  -- ---- a stretch put in the place of another

  shifted : (a b c d e f : List X) → e ≡ f → ((a ++ (b ++ c)) ++ []) ++ d ++ e ≡ ((a ++ b) ++ (c ++ d)) ++ f
  shifted a b c d e f q = ap (λ xs. xs ++ d ++ e) (append-nil (a ++ (b ++ c))) ∙ (ap (λ xs. (a ++ (b ++ c)) ++ d ++ xs) q ∙ simp append_assoc)

  regroup : (a b c d e : List X) → a ++ (((b ++ c) ++ d) ++ e) ≡ ((a ++ b) ++ c) ++ (d ++ e)
  regroup a b c d e = simp append_assoc

  module _ (cs : List (Vec X)) (k i count : ℕ) (v : Vec X) (within : k < length cs) (at : i ≤ length (items_of cs k)) where
    -- a chunk takes as many as it gives, and the stretch goes on in the next
    module _ (gone : ℕ) (now later : List X) (all : gone ≡ length (items_of cs k) - i) (less : gone < count) (most : count ≤ length (behind_place cs k i)) (over : v.items ≡ take i (items_of cs k) ++ now ++ drop (i + gone) (items_of cs k)) where
      pub goes_on : k + 1 < length cs
      goes_on =
          elim (cases_lt (k + 1) (length cs)) [
            | inl l ↦ l
            | inr l ↦
                let e = trail_last cs k (omega arith) in
                let n = ap length e in
                absurd (omega (arith, length-append (drop i (items_of cs k)) (trail cs k), length-drop i (items_of cs k)))
          ]

      over_whole : v.items ≡ take i (items_of cs k) ++ now
      over_whole = over ∙ (ap (λ xs. take i (items_of cs k) ++ now ++ xs) (drop_all (i + gone) (items_of cs k) (omega arith)) ∙ append-nil (take i (items_of cs k) ++ now))

      next_lead : lead (set cs k v) (k + 1) ≡ lead cs k ++ (take i (items_of cs k) ++ now)
      next_lead =
          lead_next (set cs k v) k (let n = length_set cs k v in omega arith)
          ∙ (ap (λ xs. xs ++ items_of (set cs k v) k) (lead_set cs k v) ∙ ap (λ xs. lead cs k ++ xs) (items_set cs k v within ∙ over_whole))

      next_trail : items_of (set cs k v) (k + 1) ++ trail (set cs k v) (k + 1) ≡ trail cs k
      next_trail =
          sym (trail_next (set cs k v) k (let n = length_set cs k v in let l = goes_on in omega arith)) ∙ trail_set cs k v

      left_over : drop (count - gone) (items_of (set cs k v) (k + 1) ++ trail (set cs k v) (k + 1)) ≡ drop count (behind_place cs k i)
      left_over =
          ap (drop (count - gone)) next_trail
          ∙ sym (drop_past count (drop i (items_of cs k)) (trail cs k) (omega (arith, length-drop i (items_of cs k)))
          ∙ ap (λ n. drop (count - n) (trail cs k)) (length-drop i (items_of cs k) ∙ sym all))

      pub put_more : replaced (set cs k v) (k + 1) 0 (count - gone) later ≡ replaced cs k i count (now ++ later)
      put_more =
          ap (λ xs. (xs ++ []) ++ later ++ drop (count - gone) (items_of (set cs k v) (k + 1) ++ trail (set cs k v) (k + 1))) next_lead
          ∙ shifted (lead cs k) (take i (items_of cs k)) now later _ _ left_over

      pub count_more : count - gone ≤ length (behind_place (set cs k v) (k + 1) 0)
      count_more =
          let e = ap length next_trail in
          omega (arith, length-append (drop i (items_of cs k)) (trail cs k), length-drop i (items_of cs k))

    -- the last chunk takes all that are left
    pub put_last : (left : List X) → i + count ≤ length (items_of cs k) → v.items ≡ take i (items_of cs k) ++ left ++ drop (i + count) (items_of cs k) → joined (set cs k v) ≡ replaced cs k i count left
    put_last left l over =
        let its = items_of cs k in
        let rest = trail cs k in
        let e : drop count (drop i its ++ rest) ≡ drop (i + count) its ++ rest =
        drop-append-le count (drop i its) rest (omega (arith, length-drop i its)) ∙ ap (λ xs. xs ++ rest) (drop-drop count i its) in
        parts (set cs k v) k (let n = length_set cs k v in omega arith)
        ∙ (ap (λ xs. xs ++ (items_of (set cs k v) k ++ trail (set cs k v) k)) (lead_set cs k v)
        ∙ (ap (λ xs. lead cs k ++ (xs ++ trail (set cs k v) k)) (items_set cs k v within ∙ over)
        ∙ (ap (λ xs. lead cs k ++ ((take i its ++ left ++ drop (i + count) its) ++ xs)) (trail_set cs k v)
        ∙ (regroup (lead cs k) (take i its) left (drop (i + count) its) rest
        ∙ ap (λ xs. (lead cs k ++ take i its) ++ left ++ xs) (sym e)))))

  -- ---- chunks that are empty go

  abbrev pub has_items : Vec X → Bool
  has_items c = ltb 0 (length c.items)

  pub joined_filter : (cs : List (Vec X)) → joined (filter has_items cs) ≡ joined cs
  joined_filter [] = refl
  joined_filter (c ∷ cs) =
      by_test (has_items c)
      (λ e. ap (λ b. joined (cond b (c ∷ filter has_items cs) (filter has_items cs))) e ∙ ap (λ xs. c.items ++ xs) (joined_filter cs))
      (λ e.
      let n : c.items ≡ [] = nil_from_length c.items (grind (arith, nat_tests)) in
      ap (λ b. joined (cond b (c ∷ filter has_items cs) (filter has_items cs))) e ∙ (joined_filter cs ∙ ap (λ xs. xs ++ joined cs) (sym n)))

  pub full_filter : (cs : List (Vec X)) → AreFull (filter has_items cs)
  full_filter [] = tt
  full_filter (c ∷ cs) =
      by_test (has_items c)
      (λ e. subst AreFull (sym (ap (λ b. cond b (c ∷ filter has_items cs) (filter has_items cs)) e)) (grind (arith, nat_tests), full_filter cs))
      (λ e. subst AreFull (sym (ap (λ b. cond b (c ∷ filter has_items cs) (filter has_items cs)) e)) (full_filter cs))

  -- ---- the fronts of chunks, one after another

  module _ (q : X → Bool) (cs : List (Vec X)) (i : ℕ) (its old new whole : List X) (d : Vec X) (l : i < length cs) (chunk : its ≡ (get_or cs i d).items) (so_far : old ++ before_first q (joined (drop i cs)) ≡ whole) (copied : new ≡ old ++ before_first q its) where
    here : old ++ before_first q (its ++ joined (drop (i + 1) cs)) ≡ whole
    here = ap (λ xs. old ++ before_first q (xs ++ joined (drop (i + 1) cs))) chunk ∙ (ap (λ bs. old ++ before_first q (joined bs)) (sym (drop_more cs i d l)) ∙ so_far)

    pub front_ends : position_or_len q its < length its → new ≡ whole
    front_ends e = copied ∙ (ap (λ xs. old ++ xs) (sym (before_ended q its (joined (drop (i + 1) cs)) e)) ∙ here)

    pub front_goes_on : length its ≤ position_or_len q its → new ++ before_first q (joined (drop (i + 1) cs)) ≡ whole
    front_goes_on e =
        ap (λ xs. xs ++ before_first q (joined (drop (i + 1) cs))) (copied ∙ ap (λ xs. old ++ xs) (take_all (position_or_len q its) its e))
        ∙ (append_assoc old its (before_first q (joined (drop (i + 1) cs)))
        ∙ (ap (λ xs. old ++ xs) (sym (before_behind q its (joined (drop (i + 1) cs)) (all_before q its e))) ∙ here))

  -- ---- what writing over one chunk leaves

  module _ (cs : List (Vec X)) (k i count : ℕ) (new : List (Vec X)) (within : k < length cs) where
    pub over_length : (now : List X) → IsWrittenOver cs (change k i count now) new → length new ≡ length cs
    over_length now w = ap length w.set ∙ length_set cs k w.written

    pub over_full : (now : List X) → IsWrittenOver cs (change k i count now) new → AreFull cs → 0 < length (items_of new k) → AreFull new
    over_full now w f l =
        let e : items_of new k ≡ w.written.items = ap (λ bs. items_of bs k) w.set ∙ items_set cs k w.written within in
        subst AreFull (sym w.set) (full_set cs k w.written f (subst (λ (xs : List X). 0 < length xs) e l))

    pub over_last : (left : List X) → IsWrittenOver cs (change k i count left) new → i + count ≤ length (items_of cs k) → joined new ≡ replaced cs k i count left
    over_last left w l =
        ap joined w.set ∙ put_last cs k i count w.written within (omega arith) left l w.items

  module _ (cs : List (Vec X)) (k i count gone : ℕ) (now later left : List X) (new : List (Vec X)) (within : k < length cs) (at : i ≤ length (items_of cs k)) (all : gone ≡ length (items_of cs k) - i) (less : gone < count) (most : count ≤ length (behind_place cs k i)) (over : IsWrittenOver cs (change k i gone now) new) where
    pub over_goes_on : k + 1 < length new
    over_goes_on =
        let l = goes_on cs k i count over.written within at gone now later all less most over.items in
        let n = over_length cs k i gone new within now over in
        omega arith

    pub over_count : count - gone ≤ length (behind_place new (k + 1) 0)
    over_count =
        subst (λ bs. count - gone ≤ length (behind_place bs (k + 1) 0)) (sym over.set) (count_more cs k i count over.written within at gone now later all less most over.items)

    pub over_more : now ++ later ≡ left → replaced new (k + 1) 0 (count - gone) later ≡ replaced cs k i count left
    over_more e =
        ap (λ bs. replaced bs (k + 1) 0 (count - gone) later) over.set
        ∙ (put_more cs k i count over.written within at gone now later all less most over.items ∙ ap (replaced cs k i count) e)

  -- ---- the item before a place

  get_join : (xs ys : List X) (n : ℕ) → slice_get (xs ++ ys) (length xs + n) ≡ slice_get ys n
  get_join [] ys n = let e : 0 + n ≡ n = omega arith in ap (slice_get ys) e
  get_join (x ∷ xs) ys n =
      let e : length (x ∷ xs) + n ≡ suc (length xs + n) = omega arith in
      ap (slice_get (x ∷ xs ++ ys)) e ∙ get_join xs ys n

  pub last_join : (xs ys : List X) → (length ys ≡ 0 → xs ≡ []) → last ys ≡ last (xs ++ ys)
  last_join xs [] h = ap (λ zs. last (zs ++ [])) (sym (h refl))
  last_join xs (y ∷ ys) h =
      let e : length (xs ++ y ∷ ys) - 1 ≡ length xs + length ys = omega (arith, length-append xs (y ∷ ys)) in
      let f : length (y ∷ ys) - 1 ≡ length ys = omega arith in
      ap (slice_get (y ∷ ys)) f ∙ sym (ap (slice_get (xs ++ y ∷ ys)) e ∙ get_join xs (y ∷ ys) (length ys))

  pub last_before : (cs : List (Vec X)) (k i : ℕ) → i ≤ length (items_of cs k) → (i ≡ 0 → lead cs k ≡ []) → last (take i (items_of cs k)) ≡ last (before_place cs k i)
  last_before cs k i l h =
      last_join (lead cs k) (take i (items_of cs k)) (λ e. h (omega (arith, length-take-le i (items_of cs k) l)))

  -- what is copied from a place on
  pub copied_all : (q : X → Bool) (cs : List (Vec X)) (k i : ℕ) (old new : List X) → new ≡ old ++ before_first q (drop i (items_of cs k)) → position_or_len q (drop i (items_of cs k)) < length (drop i (items_of cs k)) → new ≡ old ++ before_first q (behind_place cs k i)
  copied_all q cs k i old new e l = e ∙ ap (λ xs. old ++ xs) (sym (before_ended q (drop i (items_of cs k)) (trail cs k) l))

  pub copied_on : (q : X → Bool) (cs : List (Vec X)) (k i : ℕ) (old mid new : List X) (bs : List (Vec X)) → mid ≡ old ++ before_first q (drop i (items_of cs k)) → length (drop i (items_of cs k)) ≤ position_or_len q (drop i (items_of cs k)) → bs ≡ drop (k + 1) cs → new ≡ mid ++ before_first q (joined bs) → new ≡ old ++ before_first q (behind_place cs k i)
  copied_on q cs k i old mid new bs e l d f =
      let its = drop i (items_of cs k) in
      f
      ∙ (ap (λ xs. xs ++ before_first q (joined bs)) (e ∙ ap (λ xs. old ++ xs) (take_all (position_or_len q its) its l))
      ∙ (append_assoc old its (before_first q (joined bs))
      ∙ ap (λ xs. old ++ xs) (ap (λ xs. its ++ before_first q xs) (ap joined d ∙ trail_drop cs k) ∙ sym (before_behind q its (trail cs k) (all_before q its l)))))
