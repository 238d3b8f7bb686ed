-- The words with which lines begin: what is read is spelled so, and what is spelled so is read again.
use Rattle.std.proofs.Common.{◌≡◌, ℕ, List, ◌++◌, Option, Some, None, refl, subst}
use Rattle.trace_line.specs.declared.word.Word.{Word}
use Rattle.trace_line.specs.declared.word.Word.TheVariants.{Title, Operations, Workers, Budget, Cost, Claim, Charge, Publish, Release, End}
use Rattle.trace_line.specs.Lines.{title, before_operations, before_workers, before_budget, before_cost, before_claim, before_charge, before_publish, before_release, last_line}
use Rattle.trace_line.specs.Working.Reading.{after_words, word_or, word_of_header, word_at}
use Rattle.trace_line.proofs.Digits.{after_takes}

-- the bytes of a word
abbrev pub word_text : Word → List ℕ
word_text Title = title
word_text Operations = before_operations
word_text Workers = before_workers
word_text Budget = before_budget
word_text Cost = before_cost
word_text Claim = before_claim
word_text Charge = before_charge
word_text Publish = before_publish
word_text Release = before_release
word_text End = last_line

-- what is found is spelled so
abbrev Spelled : List ℕ → Option (Word × List ℕ) → Type 0
Spelled bytes None = Unit {0}
Spelled bytes (Some (w, rest)) = bytes ≡ word_text w ++ rest

or_spelled : (bytes : List ℕ) (w : Word) (o : Option (List ℕ)) (others : Option (Word × List ℕ)) → after_words (word_text w) bytes ≡ o → Spelled bytes others → Spelled bytes (word_or w o others)
or_spelled bytes w (Some rest) others e s = after_takes (word_text w) bytes rest e
or_spelled bytes w None others e s = s

header_spelled : (bytes : List ℕ) → Spelled bytes (word_of_header bytes)
unfolding word_of_header
header_spelled bytes =
    or_spelled bytes Cost (after_words before_cost bytes) _ refl
    (or_spelled bytes Title (after_words title bytes) _ refl
    (or_spelled bytes Operations (after_words before_operations bytes) _ refl
    (or_spelled bytes Workers (after_words before_workers bytes) _ refl
    (or_spelled bytes Budget (after_words before_budget bytes) None refl tt))))

all_spelled : (bytes : List ℕ) → Spelled bytes (word_at bytes)
unfolding word_at
all_spelled bytes =
    or_spelled bytes Claim (after_words before_claim bytes) _ refl
    (or_spelled bytes Charge (after_words before_charge bytes) _ refl
    (or_spelled bytes Publish (after_words before_publish bytes) _ refl
    (or_spelled bytes Release (after_words before_release bytes) _ refl
    (or_spelled bytes End (after_words last_line bytes) _ refl (header_spelled bytes)))))

pub word_takes : (bytes : List ℕ) (w : Word) (rest : List ℕ) → word_at bytes ≡ Some (w, rest) → bytes ≡ word_text w ++ rest
word_takes bytes w rest e = subst (Spelled bytes) e (all_spelled bytes)

pub word_again : (w : Word) (rest : List ℕ) → word_at (word_text w ++ rest) ≡ Some (w, rest)
unfolding word_at word_of_header after_words title before_operations before_workers before_budget before_cost before_claim before_charge before_publish before_release last_line
word_again Title rest = refl
word_again Operations rest = refl
word_again Workers rest = refl
word_again Budget rest = refl
word_again Cost rest = refl
word_again Claim rest = refl
word_again Charge rest = refl
word_again Publish rest = refl
word_again Release rest = refl
word_again End rest = refl
