-- A framer between two pieces: what it has taken is a cut of what it was fed.
use Rattle.std.proofs.Common.{◌≡◌, ℕ, ◌+◌, ◌<◌, ◌≤◌, inl, inr, Bool, true, false, eqb, cond, List, [], ◌∷◌, ◌++◌, length, take, drop, get_or, Some, None, Ok, Err, refl, sym, ap, subst, ◌∙◌, arith, length-append}
use Rattle.std.specs.List.{flat_map}
use Rattle.std.proofs.lemmas.Bool.{eqb-true}
use Rattle.std.proofs.lemmas.List.{append-nil, take_more, take_all, take-append-drop}
use Rattle.std.proofs.lemmas.List.Concat.{flat_map-append}
use Rattle.gds_records.specs.declared.record.Record.{Record}
use Rattle.gds_records.specs.declared.fault.LayoutKind.{LayoutKind}
use Rattle.gds_records.specs.declared.fault.LayoutKind.TheVariants as kinds
use Rattle.gds_records.specs.declared.fault.LayoutRefusal.{LayoutRefusal}
use Rattle.gds_records.specs.declared.fault.LayoutFault.{LayoutFault}
use Rattle.gds_records.specs.declared.fault.LayoutFault.TheVariants as faults
use Rattle.gds_records.specs.Records.{Item, size_of, spelling, endlib, end_of, AreRecords, IsPartial, IsTooLong, IsBadLength, IsGoodLength}
use Rattle.gds_records.specs.Stream.{Stream, Takes, item_of, start_of_stream, IsRefusedAs, truncation}
use Rattle.gds_records.specs.Library.{IsLibrary, IsFaultOf, IsRefusedBehind}
use Rattle.gds_records.specs.Working.Taking.{HasTaken, IsDry, TakesWhole}
use Rattle.gds_records.proofs.Fronts.{too_long-more, bad_length-more}
use Rattle.gds_records.proofs.Cutting.{cuts-start, cuts-push, cuts-more, end_of-push, ends_library-push, ends_library-pushed, records_are_one}

pub taken-start : HasTaken [] [] start_of_stream
taken-start = record { cut = cuts-start []; behind = refl; ended = λ (e : false ≡ true). absurd cc; goes_on = λ _ ends. ends }

pub taken-fed : (bytes : List ℕ) (items : List Item) (stream : Stream) (piece : List ℕ) → HasTaken bytes items stream → HasTaken (bytes ++ piece) items (record stream { left = stream.left ++ piece })
taken-fed bytes items stream piece taken = record { cut = cuts-more bytes items stream.left piece taken.cut; behind = taken.behind; ended = taken.ended; goes_on = taken.goes_on }

pub taken-next : (bytes : List ℕ) (items : List Item) (old : Stream) (next : Record) (new : Stream) → HasTaken bytes items old → Takes old (Ok (Some next)) new
    → HasTaken bytes (items ++ item_of next ∷ []) new
taken-next bytes items old next new taken takes =
    let P : ℕ → Type 0 = λ n. IsGoodLength n (size_of (item_of next)) in
    record {
      cut = cuts-push bytes items old.left (item_of next) new.left taken.cut
          (record { goes_on = taken.goes_on takes.0; whole = takes.3; here = takes.1 ∙ taken.behind; good = subst P taken.behind takes.2 });
      behind = takes.4 ∙ ap (λ (n : ℕ). n + size_of (item_of next)) taken.behind ∙ sym (end_of-push items (item_of next));
      ended = λ e. ends_library-pushed items (item_of next) (eqb-true _ _ (sym takes.5 ∙ e));
      goes_on = λ e ends. let same : eqb next.kind endlib ≡ true = rw (ends_library-push items (item_of next) ends) refl in absurd (let no : true ≡ false = sym same ∙ sym takes.5 ∙ e in cc);
    }

-- ---- Piece by piece

pieces-more : {X : Type 0} (f : X → List ℕ) (pieces : List X) (i : ℕ) (piece : X) → i < length pieces → piece ≡ get_or pieces i piece
    → flat_map f (take (i + 1) pieces) ≡ flat_map f (take i pieces) ++ f piece
pieces-more f pieces i piece within here =
    ap (flat_map f) (take_more pieces i piece within) ∙ flat_map-append f (take i pieces) (get_or pieces i piece ∷ [])
    ∙ ap (λ (t : List ℕ). flat_map f (take i pieces) ++ t) (append-nil (f (get_or pieces i piece)) ∙ ap f (sym here))

pieces-split : {X : Type 0} (f : X → List ℕ) (pieces : List X) (n : ℕ) → flat_map f (take n pieces) ++ flat_map f (drop n pieces) ≡ flat_map f pieces
pieces-split f pieces n = sym (flat_map-append f (take n pieces) (drop n pieces)) ∙ ap (flat_map f) (take-append-drop n pieces)

pub taken-piece : {X : Type 0} (f : X → List ℕ) (pieces : List X) (i : ℕ) (piece : X) (fed : List ℕ) (items : List Item) (old new : Stream) → i < length pieces
    → piece ≡ get_or pieces i piece → fed ≡ f piece → new ≡ record old { left = old.left ++ fed } → HasTaken (flat_map f (take i pieces)) items old
    → HasTaken (flat_map f (take (i + 1) pieces)) items new
taken-piece f pieces i piece fed items old new within here is_piece is_fed taken =
    let text : flat_map f (take i pieces) ++ fed ≡ flat_map f (take (i + 1) pieces) = ap (λ (t : List ℕ). flat_map f (take i pieces) ++ t) is_piece ∙ sym (pieces-more f pieces i piece within here) in
    let P : List ℕ → Type 0 = λ bytes. HasTaken bytes items new in
    let Q : Stream → Type 0 = λ stream. HasTaken (flat_map f (take i pieces) ++ fed) items stream in
    subst P text (subst Q (sym is_fed) (taken-fed (flat_map f (take i pieces)) items old fed taken))

pub taken-all : {X : Type 0} (f : X → List ℕ) (pieces : List X) (n : ℕ) (items : List Item) (stream : Stream) → length pieces ≤ n → HasTaken (flat_map f (take n pieces)) items stream
    → HasTaken (flat_map f pieces) items stream
taken-all f pieces n items stream past taken =
    let P : List ℕ → Type 0 = λ bytes. HasTaken bytes items stream in subst P (ap (flat_map f) (take_all n pieces past)) taken

-- ---- The answer

refused-as : (kind : LayoutKind) (at : ℕ) (bytes more : List ℕ) (items : List Item) (stream : Stream) → HasTaken bytes items stream → at ≡ stream.at → IsRefusedAs kind stream.at stream.left
    → IsRefusedBehind kind at (bytes ++ more) (end_of items) (stream.left ++ more)
refused-as kinds.LayoutTooLong at bytes more items stream taken here refused =
    let P : ℕ → Type 0 = λ n. IsTooLong n (stream.left ++ more) in (here ∙ taken.behind, subst P taken.behind (too_long-more stream.at stream.left more refused))
refused-as kinds.BadLength at bytes more items stream taken here refused =
    let P : ℕ → Type 0 = λ n. IsBadLength n (stream.left ++ more) in (here ∙ taken.behind, subst P taken.behind (bad_length-more stream.at stream.left more refused))
refused-as kind at bytes more items stream taken here refused = absurd refused

refused-behind : (fault : LayoutFault) (bytes more : List ℕ) (items : List Item) (stream : Stream) → TakesWhole bytes (Err fault) items stream → IsFaultOf (bytes ++ more) fault
refused-behind (faults.Refused refusal) bytes more items stream takes =
    (items, stream.left ++ more, cuts-more bytes items stream.left more takes.0.cut, takes.0.goes_on takes.1, refused-as refusal.kind refusal.at bytes more items stream takes.0 takes.2 takes.3)
refused-behind faults.Memory bytes more items stream takes = tt

-- a header that is refused in some piece refuses the whole stream
pub refused-early : {X : Type 0} (f : X → List ℕ) (pieces : List X) (n : ℕ) (fault : LayoutFault) (items : List Item) (stream : Stream) → TakesWhole (flat_map f (take n pieces)) (Err fault) items stream
    → IsFaultOf (flat_map f pieces) fault
refused-early f pieces n fault items stream takes =
    let P : List ℕ → Type 0 = λ bytes. IsFaultOf bytes fault in
    subst P (pieces-split f pieces n) (refused-behind fault (flat_map f (take n pieces)) (flat_map f (drop n pieces)) items stream takes)

has_ended : (ended : Bool) (refusal : LayoutRefusal) → None ≡ cond ended None (Some refusal) → ended ≡ true
has_ended true refusal e = refl
has_ended false refusal e = absurd cc

has_not_ended : (ended : Bool) (one other : LayoutRefusal) → Some one ≡ cond ended None (Some other) → (ended ≡ false) × (other ≡ one)
has_not_ended true one other e = absurd cc
has_not_ended false one other e = (refl, cc)

pub is_library : (bytes : List ℕ) (items : List Item) (stream : Stream) → HasTaken bytes items stream → None ≡ truncation stream → IsLibrary bytes items
is_library bytes items stream taken e =
    let ends = taken.ended (has_ended stream.ended _ e) in
    (ends, (stream.left, record { cut = taken.cut; all = inl ends }))

pub library-only : (bytes : List ℕ) (items others : List Item) (rest : List ℕ) → IsLibrary bytes items → AreRecords bytes others rest → items ≡ others
library-only bytes items others rest library other = (records_are_one bytes items others library.1.0 rest library.1.1 other).0

pub truncated-at_end : (bytes : List ℕ) (items : List Item) (stream : Stream) (refusal : LayoutRefusal) → HasTaken bytes items stream → IsDry stream → Some refusal ≡ truncation stream
    → IsFaultOf bytes (faults.Refused refusal)
truncated-at_end bytes items stream refusal taken dry e =
    let no = has_not_ended stream.ended refusal _ e in
    let P : LayoutRefusal → Type 0 = λ r. IsFaultOf bytes (faults.Refused r) in
    let Q : ℕ → Type 0 = λ n. IsPartial n stream.left in
    let partial : IsPartial (end_of items) stream.left = elim dry as (λ _. IsPartial (end_of items) stream.left) [
      | inl ended ↦ absurd (let clash : true ≡ false = sym ended ∙ no.0 in cc)
      | inr partial ↦ subst Q taken.behind partial
    ] in
    let at : stream.at + length stream.left ≡ length bytes = omega (arith, taken.behind, ap length taken.cut.whole, length-append (flat_map spelling items) stream.left) in
    subst P no.1 (items, stream.left, taken.cut, taken.goes_on no.0, (at, partial))
