-- The words of a command: settings, one after the other, before a last word.
use Rattle.std.proofs.Common.{Bor, IsTrue, ◌↔◌, is_some, not, ◌≡◌, ℕ, ◌-◌, ◌<◌, ◌≤◌, length, map, take, drop, get_or, arith, true, false, Bool, List, [], ◌∷◌, ◌++◌, Option, Some, None, if◌then◌else◌, refl, sym, ap, ◌∙◌, append_assoc}
use Rattle.std.specs.Prelude.{codes, unwrap_or, ◌==◌}
use Rattle.std.specs.Str.{bytes_eq}
use Rattle.std.specs.Option.{option_copied}
use Rattle.std.proofs.lemmas.Slice.Eq.{bytes_eq-Decides}
use Rattle.std.proofs.lemmas.Bool.{false_from_ne_true}
use Rattle.std.proofs.lemmas.Grind.{common_steps}
use Rattle.list_facts.proofs.Texts.{bytes_apart}
use Rattle.drc_cli.specs.Command.{CheckRequest, FormatRequest, Command, check, format, Setting, words_of, value_in, no_date, AreServed, IsServedOption, AsksForCheck, AsksForFormat, Asks, AreRefused}

-- ---- The value of an option

or_else : Option (List ℕ) → Option (List ℕ) → Option (List ℕ)
or_else None other = other
or_else (Some value) other = Some value

value_append : (first last : List Setting) (option : List ℕ) → value_in (first ++ last) option ≡ or_else (value_in first option) (value_in last option)
unfolding or_else
value_append [] last option = refl
value_append (setting ∷ first) last option = elim (bytes_eq setting.option option) as (λ b. (if b then Some setting.value else value_in (first ++ last) option) ≡ or_else (if b then Some setting.value else value_in first option) (value_in last option)) [
  | true ↦ refl
  | false ↦ value_append first last option
]

none_of : (b : Bool) (value : List ℕ) (other : Option (List ℕ)) → (if b then Some value else other) ≡ None → (b ≡ false) × (other ≡ None)
none_of true value other e = absurd cc
none_of false value other e = (refl, e)

-- an option that isn't set before, nor by one setting more
still_none : (settings : List Setting) (setting : Setting) (option : List ℕ) → value_in settings option ≡ None → bytes_eq setting.option option ≡ false
    → value_in (settings ++ setting ∷ []) option ≡ None
unfolding or_else
still_none settings setting option none differs =
    value_append settings (setting ∷ []) option
    ∙ ap (λ v. or_else v (value_in (setting ∷ []) option)) none
    ∙ ap (λ b. if b then Some setting.value else None) differs

some_is : (other : Option (List ℕ)) (value : List ℕ) → or_else other (Some value) ≡ None → ⊥
unfolding or_else
some_is None value e = cc
some_is (Some v) value e = cc

-- an option that is set behind
set_behind : (first more : List Setting) (setting : Setting) (option : List ℕ) → value_in (first ++ setting ∷ more) option ≡ None → bytes_eq option setting.option ≡ false
set_behind first more setting option none = false_from_ne_true (bytes_eq option setting.option) (λ same.
    let back : bytes_eq setting.option option ≡ true = (bytes_eq-Decides setting.option option).1 (sym ((bytes_eq-Decides option setting.option).0 same)) in
    some_is (value_in first option) setting.value
    (ap (λ b. or_else (value_in first option) (if b then Some setting.value else value_in more option)) (sym back) ∙ sym (value_append first (setting ∷ more) option) ∙ none))

-- ---- Settings that are served

pub served_more : (settings : List Setting) (setting : Setting) → AreServed settings → IsServedOption setting → value_in settings setting.option ≡ None
    → AreServed (settings ++ setting ∷ [])
served_more [] setting served here none = (here, refl, tt)
served_more (first ∷ settings) setting served here none =
    let parts = none_of (bytes_eq first.option setting.option) first.value (value_in settings setting.option) none in (
      served.0,
      still_none settings setting first.option served.1 (bytes_apart first.option setting.option parts.0),
      served_more settings setting served.2 here parts.1,
    )

pub served_at : (settings more : List Setting) (setting : Setting) → AreServed (settings ++ setting ∷ more) → IsServedOption setting × (value_in settings setting.option ≡ None)
served_at [] more setting served = (served.0, refl)
served_at (first ∷ settings) more setting served =
    let rest = served_at settings more setting served.2 in
    let differs = set_behind settings more setting first.option served.1 in
    (rest.0, ap (λ b. if b then Some first.value else value_in settings setting.option) differs ∙ rest.1)

-- ---- The words of settings

pub words_append : (first last : List Setting) → words_of (first ++ last) ≡ words_of first ++ words_of last
words_append [] last = refl
words_append (setting ∷ first) last = ap (λ words. setting.option ∷ setting.value ∷ words) (words_append first last)

same_setting : (a b : Setting) → a.option ≡ b.option → a.value ≡ b.value → a ≡ b
same_setting a b p q =
    ap (λ o. let s : Setting = record { option = o; value = a.value } in s) p ∙ ap (λ v. let s : Setting = record { option = b.option; value = v } in s) q

-- what stands behind some of the settings
pub settings_behind : (settings first : List Setting) (setting : Setting) (rest : List (List ℕ)) → words_of settings ≡ words_of first ++ setting.option ∷ setting.value ∷ rest
    → (more : List Setting) × (settings ≡ first ++ setting ∷ more)
settings_behind [] [] setting rest e = absurd cc
settings_behind (s ∷ settings) [] setting rest e =
    let options : s.option ≡ setting.option = cc in
    let values : s.value ≡ setting.value = cc in
    let same : s ≡ setting = same_setting s setting options values in
    (settings, ap (λ x. x ∷ settings) same)
settings_behind [] (f ∷ first) setting rest e = absurd cc
settings_behind (s ∷ settings) (f ∷ first) setting rest e =
    let options : s.option ≡ f.option = cc in
    let values : s.value ≡ f.value = cc in
    let same : s ≡ f = same_setting s f options values in
    let tails : words_of settings ≡ words_of first ++ setting.option ∷ setting.value ∷ rest = cc in
    let more = settings_behind settings first setting rest tails in
    (more.0, ap (λ x. x ∷ settings) same ∙ ap (λ xs. f ∷ xs) more.1)

-- settings are pairs of words
pub no_half_setting : (settings first : List Setting) (word : List ℕ) → words_of settings ≡ words_of first ++ word ∷ [] → ⊥
no_half_setting [] [] word e = cc
no_half_setting (s ∷ settings) [] word e = cc
no_half_setting [] (f ∷ first) word e = cc
no_half_setting (s ∷ settings) (f ∷ first) word e =
    let tails : words_of settings ≡ words_of first ++ word ∷ [] = cc in
    no_half_setting settings first word tails

pub same_words : (a b : List Setting) (x y : List ℕ) → words_of a ++ x ∷ [] ≡ words_of b ++ y ∷ [] → (a ≡ b) × (x ≡ y)
same_words [] [] x y e = let last : x ≡ y = cc in (refl, last)
same_words [] (t ∷ b) x y e = absurd cc
same_words (s ∷ a) [] x y e = absurd cc
same_words (s ∷ a) (t ∷ b) x y e =
    let options : s.option ≡ t.option = cc in
    let values : s.value ≡ t.value = cc in
    let same : s ≡ t = same_setting s t options values in
    let tails : words_of a ++ x ∷ [] ≡ words_of b ++ y ∷ [] = cc in
    let rest = same_words a b x y tails in
    (ap (λ r. r ∷ a) same ∙ ap (λ r. t ∷ r) rest.0, rest.1)

-- ---- The words ask for one command

no_words : (settings : List Setting) (word : List ℕ) → words_of settings ++ word ∷ [] ≡ [] → ⊥
no_words [] word e = cc
no_words (s ∷ settings) word e = cc

pub check_has_deck : (request : CheckRequest) → AsksForCheck (codes "check" ∷ []) request → ⊥
check_has_deck request asks =
    let tails : words_of asks.settings ++ request.deck ∷ [] ≡ [] = cc (asks.spelled) in
    no_words asks.settings request.deck tails

same_request : (a b : CheckRequest) → a.date ≡ b.date → a.deck ≡ b.deck → a ≡ b
same_request a b p q =
    ap (λ d. let r : CheckRequest = record { date = d; deck = a.deck } in r) p ∙ ap (λ d. let r : CheckRequest = record { date = b.date; deck = d } in r) q

pub one_request : (words : List (List ℕ)) (a b : CheckRequest) → AsksForCheck words a → AsksForCheck words b → a ≡ b
one_request words a b p q =
    let both : codes "check" ∷ (words_of p.settings ++ a.deck ∷ []) ≡ codes "check" ∷ (words_of q.settings ++ b.deck ∷ []) = sym p.spelled ∙ q.spelled in
    let tails : words_of p.settings ++ a.deck ∷ [] ≡ words_of q.settings ++ b.deck ∷ [] = cc in
    let same = same_words p.settings q.settings a.deck b.deck tails in
    same_request a b (p.date ∙ ap (λ s. unwrap_or (value_in s (codes "--date")) no_date) same.0 ∙ sym q.date) same.1

one_format : (words : List (List ℕ)) (a b : FormatRequest) → AsksForFormat words a → AsksForFormat words b → a ≡ b
one_format words a b p q =
    let both : codes "fmt" ∷ a.deck ∷ [] ≡ codes "fmt" ∷ b.deck ∷ [] = sym p.spelled ∙ q.spelled in
    let same : a.deck ≡ b.deck = cc in
    ap (λ d. let r : FormatRequest = record { deck = d } in r) same

-- the first word tells the commands apart
not_both : (words : List (List ℕ)) (a : CheckRequest) (b : FormatRequest) → AsksForCheck words a → AsksForFormat words b → ⊥
not_both words a b p q =
    let firsts : codes "check" ∷ (words_of p.settings ++ a.deck ∷ []) ≡ codes "fmt" ∷ b.deck ∷ [] = sym p.spelled ∙ q.spelled in
    let never : codes "check" ≡ codes "fmt" = cc in cc

pub one_command : (words : List (List ℕ)) (a b : Command) → Asks words a → Asks words b → a ≡ b
one_command words (check a) (check b) p q = ap (λ (r : CheckRequest). check r) (one_request words a b p q)
one_command words (check a) (format b) p q = absurd (not_both words a b p q)
one_command words (format a) (check b) p q = absurd (not_both words b a q p)
one_command words (format a) (format b) p q = ap (λ (r : FormatRequest). format r) (one_format words a b p q)

-- ---- Words that ask for no check

pub plain_refused : (words : List (List ℕ)) → AreRefused words → IsTrue true ↔ ((request : CheckRequest) → AsksForCheck words request → ⊥)
plain_refused words nothing = (λ t request asks. nothing (check request) asks, λ none. refl)

-- ---- A date that is set

pub date_more : (settings : List Setting) (setting : Setting) → setting.option ≡ codes "--date" → value_in settings (codes "--date") ≡ None
    → Some setting.value ≡ value_in (settings ++ setting ∷ []) (codes "--date")
unfolding or_else
date_more settings setting named none =
    let test : bytes_eq setting.option (codes "--date") ≡ true = (bytes_eq-Decides setting.option (codes "--date")).1 named in
    sym (value_append settings (setting ∷ []) (codes "--date")
    ∙ ap (λ v. or_else v (value_in (setting ∷ []) (codes "--date"))) none
    ∙ ap (λ b. if b then Some setting.value else None) test)

pub copied_none : (date : Option (Bor (List ℕ))) (none : Bool) → is_some date ≡ not none → none ≡ true → option_copied date ≡ None
copied_none None none is e = refl
copied_none (Some d) none is e = let never : true ≡ false = is ∙ ap not e in absurd cc

pub copied_some : (date : Option (Bor (List ℕ))) (none : Bool) → is_some date ≡ not none → none ≡ false → option_copied date ≡ None → ⊥
copied_some None none is e copied = let never : false ≡ true = is ∙ ap not e in cc
copied_some (Some d) none is e copied = cc

pub date_free : (settings more : List Setting) (setting : Setting) → AreServed (settings ++ setting ∷ more) → value_in settings (codes "--date") ≡ None
date_free settings more setting served =
    let at = served_at settings more setting served in
    ap (λ o. value_in settings o) (sym at.0.0) ∙ at.1

-- ---- The words as they are read, two at a time

words_then : (before : List Setting) (setting : Setting) (more : List (List ℕ)) → words_of (before ++ setting ∷ []) ++ more ≡ words_of before ++ setting.option ∷ setting.value ∷ more
words_then before setting more =
    ap (λ (w : List (List ℕ)). w ++ more) (words_append before (setting ∷ [])) ∙ append_assoc (words_of before) (setting.option ∷ setting.value ∷ []) more

pub some_left : (n : ℕ) (empty : Bool) → empty ≡ (n == 0) → empty ≡ false → n ≡ 0 → ⊥
some_left n empty is some zero = let yes : empty ≡ true = is ∙ ap (λ (k : ℕ). k == 0) zero in cc

module _ {S : Type 0} (f : S → List ℕ) where
  take_all : (xs : List S) → take (length xs) xs ≡ xs
  take_all xs = grind (arith, common_steps)

  pub pair_then : (rest : List S) (a b : S) → 2 ≤ length rest → a ≡ get_or rest 0 a → b ≡ get_or rest 1 b
      → map f rest ≡ f a ∷ f b ∷ map f (take (length rest - 2) (drop 2 rest))
  pair_then [] a b enough p q = absurd (omega arith)
  pair_then (x ∷ []) a b enough p q = absurd (omega arith)
  pair_then (x ∷ y ∷ xs) a b enough p q =
      let count : length (x ∷ y ∷ xs) - 2 ≡ length xs = omega arith in
      let all : take (length (x ∷ y ∷ xs) - 2) xs ≡ xs = ap (λ (n : ℕ). take n xs) count ∙ take_all xs in
      let tails : map f (take (length (x ∷ y ∷ xs) - 2) xs) ≡ map f xs = ap (λ (ys : List S). map f ys) all in
      let heads : f a ≡ f x = ap f p in
      let seconds : f b ≡ f y = ap f q in
      cc

  module _ (words : List (List ℕ)) (before : List Setting) (setting : Setting) (rest : List S) (a b : S) (enough : 2 ≤ length rest) (p : a ≡ get_or rest 0 a) (q : b ≡ get_or rest 1 b) (option : setting.option ≡ f a) (value : setting.value ≡ f b) (read : words ≡ words_of before ++ map f rest) where
    behind : words ≡ words_of before ++ setting.option ∷ setting.value ∷ map f (take (length rest - 2) (drop 2 rest))
    behind =
        let pair = pair_then rest a b enough p q in
        let same : map f rest ≡ setting.option ∷ setting.value ∷ map f (take (length rest - 2) (drop 2 rest)) = cc in
        read ∙ ap (λ (w : List (List ℕ)). words_of before ++ w) same

    pub read_one_more : words ≡ words_of (before ++ setting ∷ []) ++ map f (take (length rest - 2) (drop 2 rest))
    read_one_more = behind ∙ sym (words_then before setting (map f (take (length rest - 2) (drop 2 rest))))

    pub must_have : (settings : List Setting) → words ≡ words_of settings → (more : List Setting) × (settings ≡ before ++ setting ∷ more)
    must_have settings whole = settings_behind settings before setting (map f (take (length rest - 2) (drop 2 rest))) (sym whole ∙ behind)

  pub not_half : (words : List (List ℕ)) (before settings : List Setting) (rest : List S) → words ≡ words_of before ++ map f rest → words ≡ words_of settings
      → length rest < 2 → (length rest ≡ 0 → ⊥) → ⊥
  not_half words before settings [] read whole few some = some refl
  not_half words before settings (x ∷ []) read whole few some = no_half_setting settings before (f x) (sym whole ∙ read)
  not_half words before settings (x ∷ y ∷ xs) read whole few some = omega arith
