-- The steps of an outcome: what is read comes first, so nothing is made before a read.
use Rattle.std.proofs.Common.{ℕ, List, [], ◌∷◌, ◌++◌, Option, inl, inr, sym, subst}
use Rattle.std.specs.List.{AllByRecursion}
use Rattle.drc_cli.specs.declared.answer.Which.{Which}
use Rattle.drc_cli.specs.CheckMeaning.{CheckLeads}
use Rattle.drc_cli.specs.Command.{CheckRequest, FormatRequest, check, format}
use Rattle.drc_cli.specs.FormatMeaning.{FormatLeads}
use Rattle.drc_cli.specs.Meaning.{Means, IsHeld}
use Rattle.drc_cli.specs.Outcome.{Outcome, Step, reads, writes, says}
use Rattle.drc_cli.proofs.DoneSteps.{MakesNone}

-- ---- The steps of an outcome: what is read comes first

unfoldable pub IsNoRead : Step → Type 0
IsNoRead (reads file name bytes) = ⊥
IsNoRead other = Unit {0}

unfoldable pub ReadsFirst : List Step → Type 0
ReadsFirst [] = Unit {0}
ReadsFirst (reads file name bytes ∷ steps) = ReadsFirst steps
ReadsFirst (writes file name text ∷ steps) = AllByRecursion IsNoRead steps
ReadsFirst (says text ∷ steps) = AllByRecursion IsNoRead steps

pub all_front : (P : Step → Type 0) (first last : List Step) → AllByRecursion P (first ++ last) → AllByRecursion P first
all_front P [] last all = tt
all_front P (step ∷ first) last all = (all.0, all_front P first last all.1)

pub all_back : (P : Step → Type 0) (first last : List Step) → AllByRecursion P (first ++ last) → AllByRecursion P last
all_back P [] last all = all
all_back P (step ∷ first) last all = all_back P first last all.1

pub all_both : (P : Step → Type 0) (first last : List Step) → AllByRecursion P first → AllByRecursion P last → AllByRecursion P (first ++ last)
all_both P [] last p q = q
all_both P (step ∷ first) last p q = (p.0, all_both P first last p.1 q)

pub no_read_behind : (before behind : List Step) (file : Which) (name bytes : List ℕ) → AllByRecursion IsNoRead (before ++ reads file name bytes ∷ behind) → ⊥
unfolding IsNoRead
no_read_behind before behind file name bytes all = (all_back IsNoRead before (reads file name bytes ∷ behind) all).0

pub none_before_read : (before behind : List Step) (file : Which) (name bytes : List ℕ) → ReadsFirst (before ++ reads file name bytes ∷ behind) → AllByRecursion MakesNone before
unfolding ReadsFirst MakesNone
none_before_read [] behind file name bytes first = tt
none_before_read (reads f n b ∷ before) behind file name bytes first = (tt, none_before_read before behind file name bytes first)
none_before_read (writes f n t ∷ before) behind file name bytes first = absurd (no_read_behind before behind file name bytes first)
none_before_read (says t ∷ before) behind file name bytes first = absurd (no_read_behind before behind file name bytes first)

pub no_read_behind_write : (before behind : List Step) (file : Which) (name text : List ℕ) → ReadsFirst (before ++ writes file name text ∷ behind) → AllByRecursion IsNoRead behind
unfolding ReadsFirst
no_read_behind_write [] behind file name text first = first
no_read_behind_write (reads f n b ∷ before) behind file name text first = no_read_behind_write before behind file name text first
no_read_behind_write (writes f n t ∷ before) behind file name text first = (all_back IsNoRead before (writes file name text ∷ behind) first).1
no_read_behind_write (says t ∷ before) behind file name text first = (all_back IsNoRead before (writes file name text ∷ behind) first).1

pub held_without_reads : (held : List ℕ → Option (List ℕ)) (steps : List Step) → AllByRecursion IsNoRead steps → AllByRecursion (IsHeld held) steps
unfolding IsNoRead
held_without_reads held [] all = tt
held_without_reads held (reads f n b ∷ steps) all = absurd all.0
held_without_reads held (writes f n t ∷ steps) all = (tt, held_without_reads held steps all.1)
held_without_reads held (says t ∷ steps) all = (tt, held_without_reads held steps all.1)

pub check_reads_first : (request : CheckRequest) (outcome : Outcome) → CheckLeads request outcome → ReadsFirst outcome.steps
unfolding ReadsFirst IsNoRead
check_reads_first request outcome (inl served) = subst (λ (s : List Step). ReadsFirst s) (sym served.steps_are) (tt, tt)
check_reads_first request outcome (inr (inl refused)) = subst (λ (s : List Step). ReadsFirst s) (sym refused.said.steps_are) tt
check_reads_first request outcome (inr (inr refused)) = subst (λ (s : List Step). ReadsFirst s) (sym refused.steps_are) tt

pub format_reads_first : (request : FormatRequest) (outcome : Outcome) → FormatLeads request outcome → ReadsFirst outcome.steps
unfolding ReadsFirst IsNoRead
format_reads_first request outcome (inl said) = subst (λ (s : List Step). ReadsFirst s) (sym said.steps_are) tt
format_reads_first request outcome (inr refused) = subst (λ (s : List Step). ReadsFirst s) (sym refused.said.steps_are) tt

pub reads_first : (words : List (List ℕ)) (outcome : Outcome) → Means words outcome → ReadsFirst outcome.steps
unfolding ReadsFirst IsNoRead
reads_first words outcome (inl (check request, asks, leads)) = check_reads_first request outcome leads
reads_first words outcome (inl (format request, asks, leads)) = format_reads_first request outcome leads
reads_first words outcome (inr (nothing, is)) = subst (λ (o : Outcome). ReadsFirst o.steps) (sym is) tt
