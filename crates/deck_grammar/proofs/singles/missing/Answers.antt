use Rattle.std.proofs.Common.{[], ◌∷◌, refl}
use Rattle.deck_tree.specs.declared.refusal.Single.TheVariants as single
use Rattle.deck_grammar.specs.Refusals.{singles}
use Rattle.deck_grammar.proofs.OnceFacts.{contains_all, never}
use Rattle.deck_grammar.proofs.singles.missing.Goals as goal

pub returns-then-not-has-clause-found : goal.returns-then-not-has-clause-found
returns-then-not-has-clause-found c = record {
  before = [];
  behind = single.LayoutPath ∷ single.LayoutPrimary ∷ single.ResultsDatabase ∷ [];
  is_wanted = refl;
  earlier = contains_all ([]) (singles c.args.all.now) (tt);
  missing = λ h. never (c.if-not-has.ensures.1 h);
}

pub returns-then-not-has-2-clause-found : goal.returns-then-not-has-2-clause-found
returns-then-not-has-2-clause-found c = record {
  before = single.LayoutSystem ∷ [];
  behind = single.LayoutPrimary ∷ single.ResultsDatabase ∷ [];
  is_wanted = refl;
  earlier = contains_all (single.LayoutSystem ∷ []) (singles c.args.all.now) ((c.if-not-has.ensures.0 refl, tt));
  missing = λ h. never (c.if-not-has-2.ensures.1 h);
}

pub returns-then-not-has-3-clause-found : goal.returns-then-not-has-3-clause-found
returns-then-not-has-3-clause-found c = record {
  before = single.LayoutSystem ∷ single.LayoutPath ∷ [];
  behind = single.ResultsDatabase ∷ [];
  is_wanted = refl;
  earlier = contains_all (single.LayoutSystem ∷ single.LayoutPath ∷ []) (singles c.args.all.now) ((c.if-not-has.ensures.0 refl, (c.if-not-has-2.ensures.0 refl, tt)));
  missing = λ h. never (c.if-not-has-3.ensures.1 h);
}

pub returns-then-not-has-4-clause-found : goal.returns-then-not-has-4-clause-found
returns-then-not-has-4-clause-found c = record {
  before = single.LayoutSystem ∷ single.LayoutPath ∷ single.LayoutPrimary ∷ [];
  behind = [];
  is_wanted = refl;
  earlier = contains_all (single.LayoutSystem ∷ single.LayoutPath ∷ single.LayoutPrimary ∷ []) (singles c.args.all.now) ((c.if-not-has.ensures.0 refl, (c.if-not-has-2.ensures.0 refl, (c.if-not-has-3.ensures.0 refl, tt))));
  missing = λ h. never (c.if-not-has-4.ensures.1 h);
}
