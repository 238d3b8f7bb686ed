-- What each alternative of bounds, of checks of distances and of their options reads.
use Rattle.std.proofs.Common.{◌≡◌, ℕ, Bool, true, false, Some, None, refl, sym, ap, subst}
use Rattle.deck_tree.specs.declared.name_at.NameAt.{NameAt}
use Rattle.deck_tree.specs.declared.limits.Above.TheVariants as above
use Rattle.deck_tree.specs.declared.limits.Below.TheVariants as below
use Rattle.deck_tree.specs.declared.limits.Limits.TheVariants as bounds
use Rattle.deck_tree.specs.declared.distance.DistanceKind.{DistanceKind}
use Rattle.deck_tree.specs.declared.distance.DistanceKind.TheVariants.{Internal, External}
use Rattle.deck_tree.specs.declared.distance.Input.TheVariants as inputs
use Rattle.deck_tree.specs.declared.distance.Metric.TheVariants as metrics
use Rattle.deck_tree.specs.declared.distance.Gap.TheVariants as gaps
use Rattle.deck_grammar.specs.declared.keyword.Keyword.TheVariants as k
use Rattle.deck_grammar.specs.declared.sign.Sign.TheVariants as s
use Rattle.deck_grammar.specs.declared.kind.Kind.TheVariants as kinds
use Rattle.deck_grammar.specs.Lexemes.{name_of}
use Rattle.deck_grammar.specs.Rules as r
use Rattle.deck_grammar.specs.Rules.{Tree}
use Rattle.deck_grammar.specs.Alternatives as a
use Rattle.deck_grammar.specs.Alternatives.{Alternative, production, no_options, relation_word, edge_word}
use Rattle.deck_cursor.specs.Places.{Place}
use Rattle.deck_cursor.specs.Steps.{Steps, ended, taken, chosen, Reads}
use Rattle.deck_builder.specs.Reading.{TakenAt, Means}

pub below_limit : {from p1 to : Place} {at_less : ℕ} {v_ : Tree r.value}
    → TakenAt (kinds.Sign s.Less) from p1 at_less
    → Reads r.value p1 to v_
    → Reads r.limits from to (bounds.Below (record { sign = below.Less; value = v_ }))
below_limit h0 h1 =
    record { alternative = a.below_limit; steps = taken _ h0.takes refl (chosen h1.alternative h1.steps (ended refl)) }

pub at_most_limit : {from p1 to : Place} {at_less : ℕ} {v_ : Tree r.value}
    → TakenAt (kinds.Sign s.LessOrEqual) from p1 at_less
    → Reads r.value p1 to v_
    → Reads r.limits from to (bounds.Below (record { sign = below.LessOrEqual; value = v_ }))
at_most_limit h0 h1 =
    record { alternative = a.at_most_limit; steps = taken _ h0.takes refl (chosen h1.alternative h1.steps (ended refl)) }

pub equal_limit : {from p1 to : Place} {at_equal : ℕ} {v_ : Tree r.value}
    → TakenAt (kinds.Sign s.EqualTo) from p1 at_equal
    → Reads r.value p1 to v_
    → Reads r.limits from to (bounds.Equal v_)
equal_limit h0 h1 =
    record { alternative = a.equal_limit; steps = taken _ h0.takes refl (chosen h1.alternative h1.steps (ended refl)) }

pub unequal_limit : {from p1 to : Place} {at_unequal : ℕ} {v_ : Tree r.value}
    → TakenAt (kinds.Sign s.NotEqual) from p1 at_unequal
    → Reads r.value p1 to v_
    → Reads r.limits from to (bounds.NotEqual v_)
unequal_limit h0 h1 =
    record { alternative = a.unequal_limit; steps = taken _ h0.takes refl (chosen h1.alternative h1.steps (ended refl)) }

pub above_limit : {from p1 p2 to : Place} {at_greater : ℕ} {v_ : Tree r.value} {u_ : Tree r.upper}
    → TakenAt (kinds.Sign s.Greater) from p1 at_greater
    → Reads r.value p1 p2 v_
    → Reads r.upper p2 to u_
    → Reads r.limits from to (bounds.Above above.Greater v_ u_)
above_limit h0 h1 h2 =
    record { alternative = a.above_limit; steps = taken _ h0.takes refl (chosen h1.alternative h1.steps (chosen h2.alternative h2.steps (ended refl))) }

pub at_least_limit : {from p1 p2 to : Place} {at_greater : ℕ} {v_ : Tree r.value} {u_ : Tree r.upper}
    → TakenAt (kinds.Sign s.GreaterOrEqual) from p1 at_greater
    → Reads r.value p1 p2 v_
    → Reads r.upper p2 to u_
    → Reads r.limits from to (bounds.Above above.GreaterOrEqual v_ u_)
at_least_limit h0 h1 h2 =
    record { alternative = a.at_least_limit; steps = taken _ h0.takes refl (chosen h1.alternative h1.steps (chosen h2.alternative h2.steps (ended refl))) }

pub upper_below : {from p1 to : Place} {at_less : ℕ} {v_ : Tree r.value}
    → TakenAt (kinds.Sign s.Less) from p1 at_less
    → Reads r.value p1 to v_
    → Reads r.upper from to (Some (record { sign = below.Less; value = v_ }))
upper_below h0 h1 =
    record { alternative = a.upper_below; steps = taken _ h0.takes refl (chosen h1.alternative h1.steps (ended refl)) }

pub upper_at_most : {from p1 to : Place} {at_less : ℕ} {v_ : Tree r.value}
    → TakenAt (kinds.Sign s.LessOrEqual) from p1 at_less
    → Reads r.value p1 to v_
    → Reads r.upper from to (Some (record { sign = below.LessOrEqual; value = v_ }))
upper_at_most h0 h1 =
    record { alternative = a.upper_at_most; steps = taken _ h0.takes refl (chosen h1.alternative h1.steps (ended refl)) }

pub bound_below : {from p1 to : Place} {at_less : ℕ} {v_ : Tree r.value}
    → TakenAt (kinds.Sign s.Less) from p1 at_less
    → Reads r.value p1 to v_
    → Reads r.bound from to (record { sign = below.Less; value = v_ })
bound_below h0 h1 =
    record { alternative = a.bound_below; steps = taken _ h0.takes refl (chosen h1.alternative h1.steps (ended refl)) }

pub bound_at_most : {from p1 to : Place} {at_less : ℕ} {v_ : Tree r.value}
    → TakenAt (kinds.Sign s.LessOrEqual) from p1 at_less
    → Reads r.value p1 to v_
    → Reads r.bound from to (record { sign = below.LessOrEqual; value = v_ })
bound_at_most h0 h1 =
    record { alternative = a.bound_at_most; steps = taken _ h0.takes refl (chosen h1.alternative h1.steps (ended refl)) }

pub one_internal : {from p1 p2 to : Place} {a_ : NameAt} {b_ : Tree r.bound} {o_ : Tree (r.options (r.left true true true false true))}
    → Means kinds.Name name_of from p1 a_
    → Reads r.bound p1 p2 b_
    → Reads (r.options (r.left true true true false true)) p2 to o_
    → Reads (r.distance Internal) from to (record { kind = Internal; first = inputs.Plain (a_); second = None; bound = b_; options = o_ })
one_internal h0 h1 h2 =
    record { alternative = a.one_internal; steps = taken _ h0.takes refl (chosen h1.alternative h1.steps (chosen h2.alternative h2.steps (ended (let e0 = h0.is in cc)))) }

pub one_internal_bracketed : {from p1 p2 p3 p4 to : Place} {at_bracket : ℕ} {a_ : NameAt} {at_close_bracket : ℕ} {b_ : Tree r.bound} {o_ : Tree (r.options (r.left true true true false false))}
    → TakenAt (kinds.Sign s.LeftSquare) from p1 at_bracket
    → Means kinds.Name name_of p1 p2 a_
    → TakenAt (kinds.Sign s.RightSquare) p2 p3 at_close_bracket
    → Reads r.bound p3 p4 b_
    → Reads (r.options (r.left true true true false false)) p4 to o_
    → Reads (r.distance Internal) from to (record { kind = Internal; first = inputs.Bracketed at_bracket (a_); second = None; bound = b_; options = o_ })
one_internal_bracketed h0 h1 h2 h3 h4 =
    record { alternative = a.one_internal_bracketed; steps = taken _ h0.takes refl (taken _ h1.takes refl (taken _ h2.takes refl (chosen h3.alternative h3.steps (chosen h4.alternative h4.steps (ended (let e1 = h1.is in cc)))))) }

pub one_external : {from p1 p2 to : Place} {a_ : NameAt} {b_ : Tree r.bound} {o_ : Tree (r.options (r.left true true true true true))}
    → Means kinds.Name name_of from p1 a_
    → Reads r.bound p1 p2 b_
    → Reads (r.options (r.left true true true true true)) p2 to o_
    → Reads (r.distance External) from to (record { kind = External; first = inputs.Plain (a_); second = None; bound = b_; options = o_ })
one_external h0 h1 h2 =
    record { alternative = a.one_external; steps = taken _ h0.takes refl (chosen h1.alternative h1.steps (chosen h2.alternative h2.steps (ended (let e0 = h0.is in cc)))) }

pub one_external_bracketed : {from p1 p2 p3 p4 to : Place} {at_bracket : ℕ} {a_ : NameAt} {at_close_bracket : ℕ} {b_ : Tree r.bound} {o_ : Tree (r.options (r.left true true true true false))}
    → TakenAt (kinds.Sign s.LeftSquare) from p1 at_bracket
    → Means kinds.Name name_of p1 p2 a_
    → TakenAt (kinds.Sign s.RightSquare) p2 p3 at_close_bracket
    → Reads r.bound p3 p4 b_
    → Reads (r.options (r.left true true true true false)) p4 to o_
    → Reads (r.distance External) from to (record { kind = External; first = inputs.Bracketed at_bracket (a_); second = None; bound = b_; options = o_ })
one_external_bracketed h0 h1 h2 h3 h4 =
    record { alternative = a.one_external_bracketed; steps = taken _ h0.takes refl (taken _ h1.takes refl (taken _ h2.takes refl (chosen h3.alternative h3.steps (chosen h4.alternative h4.steps (ended (let e1 = h1.is in cc)))))) }

pub two : {kind : DistanceKind} → {from p1 p2 p3 to : Place} {a_ : NameAt} {c_ : NameAt} {b_ : Tree r.bound} {o_ : Tree (r.options (r.left true true true false true))}
    → Means kinds.Name name_of from p1 a_
    → Means kinds.Name name_of p1 p2 c_
    → Reads r.bound p2 p3 b_
    → Reads (r.options (r.left true true true false true)) p3 to o_
    → Reads (r.distance kind) from to (record { kind = kind; first = inputs.Plain (a_); second = Some (inputs.Plain (c_)); bound = b_; options = o_ })
two h0 h1 h2 h3 =
    record { alternative = a.two; steps = taken _ h0.takes refl (taken _ h1.takes refl (chosen h2.alternative h2.steps (chosen h3.alternative h3.steps (ended (let e0 = h0.is in let e1 = h1.is in cc))))) }

pub two_first_bracketed : {kind : DistanceKind} → {from p1 p2 p3 p4 p5 to : Place} {at_bracket : ℕ} {a_ : NameAt} {at_close_bracket : ℕ} {c_ : NameAt} {b_ : Tree r.bound} {o_ : Tree (r.options (r.left true true true false false))}
    → TakenAt (kinds.Sign s.LeftSquare) from p1 at_bracket
    → Means kinds.Name name_of p1 p2 a_
    → TakenAt (kinds.Sign s.RightSquare) p2 p3 at_close_bracket
    → Means kinds.Name name_of p3 p4 c_
    → Reads r.bound p4 p5 b_
    → Reads (r.options (r.left true true true false false)) p5 to o_
    → Reads (r.distance kind) from to (record { kind = kind; first = inputs.Bracketed at_bracket (a_); second = Some (inputs.Plain (c_)); bound = b_; options = o_ })
two_first_bracketed h0 h1 h2 h3 h4 h5 =
    record { alternative = a.two_first_bracketed; steps = taken _ h0.takes refl (taken _ h1.takes refl (taken _ h2.takes refl (taken _ h3.takes refl (chosen h4.alternative h4.steps (chosen h5.alternative h5.steps (ended (let e1 = h1.is in let e3 = h3.is in cc))))))) }

pub two_second_bracketed : {kind : DistanceKind} → {from p1 p2 p3 p4 p5 to : Place} {a_ : NameAt} {at_bracket : ℕ} {c_ : NameAt} {at_close_bracket : ℕ} {b_ : Tree r.bound} {o_ : Tree (r.options (r.left true true true false false))}
    → Means kinds.Name name_of from p1 a_
    → TakenAt (kinds.Sign s.LeftSquare) p1 p2 at_bracket
    → Means kinds.Name name_of p2 p3 c_
    → TakenAt (kinds.Sign s.RightSquare) p3 p4 at_close_bracket
    → Reads r.bound p4 p5 b_
    → Reads (r.options (r.left true true true false false)) p5 to o_
    → Reads (r.distance kind) from to (record { kind = kind; first = inputs.Plain (a_); second = Some (inputs.Bracketed at_bracket (c_)); bound = b_; options = o_ })
two_second_bracketed h0 h1 h2 h3 h4 h5 =
    record { alternative = a.two_second_bracketed; steps = taken _ h0.takes refl (taken _ h1.takes refl (taken _ h2.takes refl (taken _ h3.takes refl (chosen h4.alternative h4.steps (chosen h5.alternative h5.steps (ended (let e0 = h0.is in let e2 = h2.is in cc))))))) }

pub abut : {b c d e : Bool} → {from p1 p2 p3 to : Place} {at_abut : ℕ} {at_less : ℕ} {v_ : Tree r.value} {o_ : Tree (r.options (r.left false b c d e))}
    → TakenAt (kinds.Keyword k.Abut) from p1 at_abut
    → TakenAt (kinds.Sign s.Less) p1 p2 at_less
    → Reads r.value p2 p3 v_
    → Reads (r.options (r.left false b c d e)) p3 to o_
    → Reads (r.options (r.left true b c d e)) from to (record o_ { abut = Some v_ })
abut h0 h1 h2 h3 =
    record { alternative = a.abut; steps = taken _ h0.takes refl (taken _ h1.takes refl (chosen h2.alternative h2.steps (chosen h3.alternative h3.steps (ended refl)))) }

pub singular : {a c d e : Bool} → {from p1 to : Place} {at_singular : ℕ} {o_ : Tree (r.options (r.left a false c d e))}
    → TakenAt (kinds.Keyword k.Singular) from p1 at_singular
    → Reads (r.options (r.left a false c d e)) p1 to o_
    → Reads (r.options (r.left a true c d e)) from to (record o_ { singular = true })
singular h0 h1 =
    record { alternative = a.singular; steps = taken _ h0.takes refl (chosen h1.alternative h1.steps (ended refl)) }

pub opposite : {a b d e : Bool} → {from p1 to : Place} {at_opposite : ℕ} {o_ : Tree (r.options (r.left a b false d e))}
    → TakenAt (kinds.Keyword k.Opposite) from p1 at_opposite
    → Reads (r.options (r.left a b false d e)) p1 to o_
    → Reads (r.options (r.left a b true d e)) from to (record o_ { metric = Some metrics.Opposite })
opposite h0 h1 =
    record { alternative = a.opposite; steps = taken _ h0.takes refl (chosen h1.alternative h1.steps (ended refl)) }

pub square : {a b d e : Bool} → {from p1 to : Place} {at_square : ℕ} {o_ : Tree (r.options (r.left a b false d e))}
    → TakenAt (kinds.Keyword k.Square) from p1 at_square
    → Reads (r.options (r.left a b false d e)) p1 to o_
    → Reads (r.options (r.left a b true d e)) from to (record o_ { metric = Some metrics.Square })
square h0 h1 =
    record { alternative = a.square; steps = taken _ h0.takes refl (chosen h1.alternative h1.steps (ended refl)) }

pub notch : {a b c e : Bool} → {from p1 to : Place} {at_notch : ℕ} {o_ : Tree (r.options (r.left a b c false e))}
    → TakenAt (kinds.Keyword k.Notch) from p1 at_notch
    → Reads (r.options (r.left a b c false e)) p1 to o_
    → Reads (r.options (r.left a b c true e)) from to (record o_ { gap = Some gaps.Notch })
notch h0 h1 =
    record { alternative = a.notch; steps = taken _ h0.takes refl (chosen h1.alternative h1.steps (ended refl)) }

pub space : {a b c e : Bool} → {from p1 to : Place} {at_space : ℕ} {o_ : Tree (r.options (r.left a b c false e))}
    → TakenAt (kinds.Keyword k.Space) from p1 at_space
    → Reads (r.options (r.left a b c false e)) p1 to o_
    → Reads (r.options (r.left a b c true e)) from to (record o_ { gap = Some gaps.Space })
space h0 h1 =
    record { alternative = a.space; steps = taken _ h0.takes refl (chosen h1.alternative h1.steps (ended refl)) }

pub region : {a b c d : Bool} → {from p1 to : Place} {at_region : ℕ} {o_ : Tree (r.options (r.left a b c d false))}
    → TakenAt (kinds.Keyword k.Region) from p1 at_region
    → Reads (r.options (r.left a b c d false)) p1 to o_
    → Reads (r.options (r.left a b c d true)) from to (record o_ { region = true })
region h0 h1 =
    record { alternative = a.region; steps = taken _ h0.takes refl (chosen h1.alternative h1.steps (ended refl)) }

pub no_upper : {from to : Place} → to ≡ from → Reads r.upper from to None
no_upper {from} {to} is = let P : Place → Type 0 = λ at. Reads r.upper from at None in subst P (sym is) (record { alternative = a.no_upper; steps = ended refl })

-- a bound from above stands behind one from below
pub as_upper : {from to : Place} {bound : Tree r.bound} → Reads r.bound from to bound → Reads r.upper from to (Some bound)
as_upper {from} {to} {bound} h = by_steps h.alternative h.steps
  where
    by_steps : (it : Alternative r.bound) → Steps r.bound (production it).parts (production it).tree from to bound → Reads r.upper from to (Some bound)
    by_steps a.bound_below (taken t takes is (chosen b s (ended e))) =
        record { alternative = a.upper_below; steps = taken t takes is (chosen b s (ended (ap Some e))) }
    by_steps a.bound_at_most (taken t takes is (chosen b s (ended e))) =
        record { alternative = a.upper_at_most; steps = taken t takes is (chosen b s (ended (ap Some e))) }

-- and alone
pub as_limits : {from to : Place} {bound : Tree r.bound} → Reads r.bound from to bound → Reads r.limits from to (bounds.Below bound)
as_limits {from} {to} {bound} h = by_steps h.alternative h.steps
  where
    by_steps : (it : Alternative r.bound) → Steps r.bound (production it).parts (production it).tree from to bound → Reads r.limits from to (bounds.Below bound)
    by_steps a.bound_below (taken t takes is (chosen b s (ended e))) =
        record { alternative = a.below_limit; steps = taken t takes is (chosen b s (ended (ap bounds.Below e))) }
    by_steps a.bound_at_most (taken t takes is (chosen b s (ended e))) =
        record { alternative = a.at_most_limit; steps = taken t takes is (chosen b s (ended (ap bounds.Below e))) }

pub no_option : {those : r.Left} {from to : Place} → to ≡ from → Reads (r.options those) from to no_options
no_option {those} {from} {to} is = let P : Place → Type 0 = λ at. Reads (r.options those) from at no_options in subst P (sym is) (record { alternative = a.no_option; steps = ended refl })
