use Rattle.std.proofs.Common.{◌≡◌, List, length, map, ap, subst, ◌∙◌, arith}
use Rattle.gds_library.specs.Library.{Structure}
use Rattle.gds_links.specs.Links.{listed}
use Rattle.gds_links.specs.Working.Naming.{AreNames, links_by}
use Rattle.gds_links.proofs.Numbering.{are_links, as_many, links_within, primary_below, same_number}
use Rattle.gds_links.proofs.links.links_of.Goals as goal

pub returns-clause-named : goal.returns-clause-named
returns-clause-named c =
    let kept = c.define_all.new.names.definitions in
    let all = c.args.library.now.structures in
    let P : List Structure → Type 0 = λ those. AreNames kept those in
    let Q : List Structure → Type 0 = λ those. listed c.in_ok-named.named.items ≡ map (links_by kept) those in
    are_links kept all (subst P c.structures-structures.ensures c.in_ok-define_all.ensures) c.in_ok-named.named.items (subst Q c.structures-structures.ensures c.in_ok-named.ensures)

pub returns-clause-primary : goal.returns-clause-primary
returns-clause-primary c =
    let kept = c.define_all.new.names.definitions in
    let P : List Structure → Type 0 = λ those. AreNames kept those in
    c.find-primary.ensures ∙ same_number kept c.args.library.now.structures (subst P c.structures-structures.ensures c.in_ok-define_all.ensures) c.args.primary.now

pub returns-clause-there : goal.returns-clause-there
returns-clause-there c = primary_below c.args.library.now.structures c.in_ok-named.named.items c.args.primary.now (returns-clause-named c) c.find-primary.result (returns-clause-primary c)

pub returns-clause-within : goal.returns-clause-within
returns-clause-within c = links_within c.args.library.now.structures c.in_ok-named.named.items (returns-clause-named c)

pub returns-clause-all : goal.returns-clause-all
returns-clause-all c = as_many c.args.library.now.structures c.in_ok-named.named.items (returns-clause-named c)

pub returns-clause-few : goal.returns-clause-few
returns-clause-few c =
    let size = as_many c.args.library.now.structures c.in_ok-named.named.items (returns-clause-named c) in
    let same = ap length c.structures-structures.ensures in
    omega (arith, size)
