-- The first gene tree that may not be counted without a root: the program finds it, and where it begins.
use Prim.Native.Nat.{ℕ, suc, ◌+◌, ◌≤◌, ◌<◌}
use mathlib.Core.Path.{◌≡◌, refl, sym, ap, ◌∙◌, subst}
use mathlib.Core.Bool.{Bool, true, ◌&&◌}
use mathlib.Core.List.Memᴰ
use mathlib.Core.List.Memᴰ.{head as here}
use mathlib.Core.List.{List, [], ◌∷◌, ◌++◌, map-append, append_assoc, Memᴰ}
use native.Mathlib.Decide.{dec_lt}
use native.Mathlib.Omega.{arith}
use lib.ListN.{length, get_or, length-append, length-map, get_or-append}
use lib.Seq.{get_or_at}
use lib.Dec.{ltb}
use borrow.Author.Tests.{ltb-true, lt-ltb}
use Rattle.trees.specs.Tree.{Tree, clusters}
use Rattle.trees.specs.Records.{record_of}
use Rattle.trees.specs.Unrooted.{may_unroot}
use Rattle.trees.proofs.Booleans.{both, unless, never_both}
use Rattle.trees.proofs.Places.{among_at}
use Rattle.roster.specs.Roster.{names}
use Rattle.std.proofs.Common.{None}
use Rattle.tokens.specs.Answers.{Answer}
use Rattle.tokens.specs.Answers.Answer.{parsed}
use Rattle.reader.specs.Promise.{reading_of, answer_to}
use Rattle.reader.specs.Accepted.{Draws}
use Rattle.reader.specs.declared.Kind.TheVariants.{Gene}
use Rattle.reader.proofs.Accepts.{derives-accepted}
use Rattle.weights.specs.declared.Rooting.{Rooting}
use Rattle.weights.specs.declared.Rooting.TheVariants.{Unrooted}
use Rattle.lineages.specs.Checks.{first_unresolved, is_unrooted, rooting_test}
use Rattle.lineages.proofs.FirstBad.{failing_means, failing_is}
use Rattle.gather.specs.GeneTrees.{begun, end_of, begins_at}
use Rattle.gather.proofs.Beginnings.{begins_next}
use Rattle.outcomes.specs.Outcome.{tree_place}
use Rattle.report.specs.Input.{mode_word}
use Rattle.report.specs.Program.{mode_of}
use Rattle.std.proofs.Common.{Option, Some}
use Rattle.std.proofs.lemmas.Option.{same_Some}
use Rattle.report.specs.Program.{Mode}
use Rattle.demands.specs.GeneTrees.{OnSome}
use Rattle.demands.specs.Input.{TreesTo, TreesStand}
use Rattle.demands.specs.Input.TreesTo.{no_tree_yet, with_more}
use Rattle.demands.specs.ProgramFaults.{MoreBehind, UnresolvedFault}
use Rattle.demands.specs.ProgramFaults.UnresolvedFault.{unresolved_or_incomplete}
use Rattle.demands.proofs.FirstFaults.{Meets}
use Rattle.demands.proofs.GeneTrees.{enters_exactly}
use Rattle.demands.proofs.TestFaults.{is_unrooted_lem}
use Rattle.demands.proofs.Gathering.{records_of, each_on, more_behind, draws_from_begun, reads_from_begun, stand_ends}
use Rattle.demands.proofs.TreesFaults.{begins_at_lem}
use Rattle.demands.proofs.TwoLines.{mode_of_word}

-- ---- the tree of an index

module _ (line text : List ℕ) where
  -- behind trees that stand there the next begins where the tree of the next index does
  begins_behind : {trees : List Tree} {at : ℕ} → TreesTo line text trees at → begun text at ≡ begins_at (length trees) line text 0
  unfolding begins_at
  begins_behind no_tree_yet = refl
  begins_behind (with_more {trees} {at} {next} {t} {rest} earlier d j) =
      let l : length (trees ++ (t ∷ [])) ≡ suc (length trees) = omega (arith, length-append trees (t ∷ [])) in
      let ends : end_of line text (begins_at (length trees) line text 0) ≡ next =
      ap (end_of line text) (sym (begins_behind earlier))
      ∙ ap (λ (a : Answer Tree). (reading_of None (begun text at) a).next) (reads_from_begun line text at d j).1
      in
      sym (ap (λ (k : ℕ). begins_at k line text 0) l ∙ begins_next line text (length trees) 0 ∙ ap (begun text) ends)

  -- the trees before the one of an index, and this one, which is read where it begins
  record Parted (trees : List Tree) (i : ℕ) : Type 0 where
    front : List Tree
    tree : Tree
    back : List Tree
    is : trees ≡ front ++ (tree ∷ back)
    count : length front ≡ i
    at : ℕ
    trees_reach : TreesTo line text front at
    inside : begun text at < length text
    rest : List ℕ
    next : ℕ
    draws : Draws Gene None line text (begun text at) tree rest
    read : answer_to Gene None line text (begins_at i line text 0) ≡ parsed tree rest next

  parted : {trees : List Tree} {end : ℕ} → TreesTo line text trees end → (i : ℕ) → i < length trees → Parted trees i
  parted no_tree_yet i h = absurd (omega arith)
  parted (with_more {trees} {at} {next} {t} {rest} earlier d j) i h = go (dec_lt i (length trees)) (λ k. parted earlier i k)
    where
      go : Dec (i < length trees) → (i < length trees → Parted trees i) → Parted (trees ++ (t ∷ [])) i
      go (yes k) among =
          let p = among k in
          record {
            front = p.front;
            tree = p.tree;
            back = p.back ++ (t ∷ []);
            is = ap (λ (l : List Tree). l ++ (t ∷ [])) p.is ∙ append_assoc p.front (p.tree ∷ p.back) (t ∷ []);
            count = p.count;
            at = p.at;
            trees_reach = p.trees_reach;
            inside = p.inside;
            rest = p.rest;
            next = p.next;
            draws = p.draws;
            read = p.read;
          }
      go (no k) among =
          let r = reads_from_begun line text at d j in
          let last : length trees ≡ i = omega (arith, k, length-append trees (t ∷ [])) in
          record {
            front = trees;
            tree = t;
            back = [];
            is = refl;
            count = last;
            at = at;
            trees_reach = earlier;
            inside = r.0;
            rest = rest;
            next = next;
            draws = draws_from_begun line text at d;
            read = ap (answer_to Gene None line text) (sym (begins_behind earlier ∙ ap (λ (k : ℕ). begins_at k line text 0) last)) ∙ r.1;
          }

  parted_begins : {trees : List Tree} {i : ℕ} (p : Parted trees i) → begun text p.at ≡ begins_at i line text 0
  parted_begins p = begins_behind p.trees_reach ∙ ap (λ (k : ℕ). begins_at k line text 0) p.count

  -- its record stands at the index
  parted_record : {trees : List Tree} {i : ℕ} (p : Parted trees i) → get_or (records_of trees) i [] ≡ record_of (clusters p.tree)
  parted_record {trees} {i} p =
      ap (λ (l : List (List ℕ)). get_or l i []) (ap records_of p.is ∙ map-append (λ (t : Tree). record_of (clusters t)) p.front (p.tree ∷ p.back))
      ∙ get_or_at (records_of p.front) (record_of (clusters p.tree)) (records_of p.back) [] i
      (length-map p.front (λ (t : Tree). record_of (clusters t)) ∙ p.count)

  -- and those before it before the index
  parted-front :
      {trees : List Tree} {i : ℕ} (p : Parted trees i) (u : Tree) → Memᴰ u p.front → (j : ℕ) × (j < i)
      × (get_or (records_of trees) j [] ≡ record_of (clusters u))
  parted-front {trees} {i} p u m =
      let a = among_at [] (Memᴰ.map (λ (t : Tree). record_of (clusters t)) m) in
      let b = a.before_end in
      let l = length-map p.front (λ (t : Tree). record_of (clusters t)) in (
        a.place,
        omega (arith, p.count),
        ap (λ (l : List (List ℕ)). get_or l a.place []) (ap records_of p.is ∙ map-append (λ (t : Tree). record_of (clusters t)) p.front (p.tree ∷ p.back))
            ∙ get_or-append (records_of p.front) (records_of (p.tree ∷ p.back)) [] a.place b
            ∙ a.there,
      )

-- one text has one tree at an index
same_tree : {a : Answer Tree} {t u : Tree} {rest rest' : List ℕ} {q q' : ℕ} → a ≡ parsed t rest q → a ≡ parsed u rest' q' → t ≡ u
same_tree {t = t} {u = u} {rest = rest} {rest' = rest'} {q = q} {q' = q'} e e' = let s : parsed t rest q ≡ parsed u rest' q' = sym e ∙ e' in cc

-- ---- the fault

-- how the gene trees are counted, a mode's word says
rooting_of : (all all' : Bool) (rooting rooting' : Rooting) → mode_word all rooting ≡ mode_word all' rooting' → rooting ≡ rooting'
rooting_of all all' rooting rooting' e =
    let s : ◌≡◌ {A = Option Mode} (Some (all, rooting)) (Some (all', rooting')) = sym (mode_of_word all rooting) ∙ ap mode_of e ∙ mode_of_word all' rooting' in
    ap (λ (m : Mode). m.1) (same_Some (all, rooting) (all', rooting') s)

module _ (line text : List ℕ) (shift : ℕ) {trees : List Tree} (stand : TreesStand line text trees) (few : length (names line) ≤ 16) where
  abbrev n : ℕ
  n = length (names line)

  on : (t : Tree) → Memᴰ t trees → OnSome n t
  on = each_on stand.trees_reach

  as_many : length (records_of trees) ≡ length trees
  as_many = length-map trees (λ (t : Tree). record_of (clusters t))

  -- the tree that begins at an offset behind others is that of their number
  module _ {others : List Tree} {t : Tree} {b : ℕ} {rest : List ℕ} (more : MoreBehind line text others b)
      (draws : Draws Gene None line text b t rest) where
    begins_there : b ≡ begins_at (length others) line text 0
    begins_there = sym (begins_at_lem line text more) ∙ begins_behind line text more.trees_reach

    -- no tree begins behind the last one
    within : length others < length trees
    within = go (dec_lt (length others) (length trees))
      where
        over : length text ≤ begins_at (length trees) line text 0
        over = subst (λ (k : ℕ). length text ≤ k) (begins_behind line text stand.trees_reach) (stand_ends line text stand)

        here : Dec (length trees < length others) → length trees ≤ length others → begins_at (length trees) line text 0 < length text
        here (yes k) h = let p = parted line text more.trees_reach (length trees) k in subst (λ (k : ℕ). k < length text) (parted_begins line text p) p.inside
        here (no k) h =
            subst (λ (k : ℕ). k < length text)
            (begins_there ∙ ap (λ (k : ℕ). begins_at k line text 0) (let e : length others ≡ length trees = omega (arith, k) in e)) more.inside

        go : Dec (length others < length trees) → length others < length trees
        go (yes k) = k
        go (no k) = let i = here (dec_lt (length trees) (length others)) (omega (arith, k)) in absurd (omega (arith, over))

    there : get_or (records_of trees) (length others) [] ≡ record_of (clusters t)
    there =
        let p = parted line text stand.trees_reach (length others) within in
        let e = derives-accepted Gene None line text b draws in
        parted_record line text p
        ∙ ap (λ (u : Tree). record_of (clusters u)) (same_tree p.read (ap (answer_to Gene None line text) (sym begins_there) ∙ e))

    others_there : (j : ℕ) → j < length others → (u : Tree) × Memᴰ u others × (get_or (records_of trees) j [] ≡ record_of (clusters u))
    others_there j l =
        let p = parted line text stand.trees_reach j (omega (arith, within)) in
        let q = parted line text more.trees_reach j l in (
          q.tree,
          subst (λ (l : List Tree). Memᴰ q.tree l) (sym q.is) (Memᴰ.append_right q.front (here refl)),
          parted_record line text p ∙ ap (λ (u : Tree). record_of (clusters u)) (same_tree p.read q.read),
        )

    -- it is a gene tree
    on_tree : OnSome n t
    on_tree = record { once = draws.once; species = draws.species }

  -- "19 for an unresolved or incomplete tree, .. in the program its first byte" (#106): found where the fault stands, with this number and place
  pub unresolved_met :
      (all : Bool) (rooting : Rooting) {mode : List ℕ} → mode ≡ mode_word all rooting
      → Meets
      (record {
        fault = (rooting_test rooting n (records_of trees)).fault;
        number = 19;
        place = tree_place line text shift
            (rooting_test rooting n (records_of trees)).place;
      })
      (UnresolvedFault line mode text shift)
  unfolding rooting_test
  unresolved_met all rooting {mode} is = record { numbered = λ z. omega arith; found = found; only = only }
    where
      found :
          (is_unrooted rooting && ltb (first_unresolved n (records_of trees)) (length (records_of trees))) ≡ true
          → UnresolvedFault line mode text shift 19 (shift + begins_at (first_unresolved n (records_of trees)) line text 0)
      found e =
          let two = both (is_unrooted rooting) (ltb (first_unresolved n (records_of trees)) (length (records_of trees))) e in
          let l = ltb-true (first_unresolved n (records_of trees)) (length (records_of trees)) two.1 in
          let h = failing_means (λ g. may_unroot n g) (records_of trees) in
          let p = parted line text stand.trees_reach (first_unresolved n (records_of trees)) (omega (arith, as_many)) in
          subst (λ (b : ℕ). UnresolvedFault line mode text shift 19 (shift + b)) (parted_begins line text p)
          (unresolved_or_incomplete all (is ∙ ap (mode_word all) (is_unrooted_lem rooting two.0)) (more_behind line text p.at p.trees_reach p.inside)
          (λ u m.
          let f = parted-front line text p u m in
          (enters_exactly few (each_on p.trees_reach u m)).0 (ap (λ (g : List ℕ). may_unroot n g) (sym f.2) ∙ h.1 f.0 f.1))
          p.draws
          (λ k.
          never_both (may_unroot n (record_of (clusters p.tree))) ((enters_exactly few (record { once = p.draws.once; species = p.draws.species })).1 k)
          (ap (λ (g : List ℕ). may_unroot n g) (sym (parted_record line text p)) ∙ h.0 l)))

      only :
          {k q : ℕ} → UnresolvedFault line mode text shift k q
          → ((is_unrooted rooting && ltb (first_unresolved n (records_of trees)) (length (records_of trees))) ≡ true) × (k ≡ 19)
          × (q ≡ shift + begins_at (first_unresolved n (records_of trees)) line text 0)
      only (unresolved_or_incomplete all' {trees = others} is' more enter draws unresolved) =
          let before = within more draws in
          let e : first_unresolved n (records_of trees) ≡ length others =
          failing_is (λ g. may_unroot n g) (records_of trees) (length others) (omega (arith, as_many, before))
          (λ m. unless (may_unroot n (get_or (records_of trees) (length others) [])) (λ v.
          unresolved ((enters_exactly few (on_tree more draws)).0 (ap (λ (g : List ℕ). may_unroot n g) (sym (there more draws)) ∙ v))))
          (λ j l.
          let o = others_there more draws j l in
          ap (λ (g : List ℕ). may_unroot n g) o.2 ∙ (enters_exactly few (each_on more.trees_reach o.0 o.1)).1 (enter o.0 o.1))
          in
          let u : rooting ≡ Unrooted = rooting_of all all' rooting Unrooted (sym is ∙ is') in (
            rw (u, lt-ltb (first_unresolved n (records_of trees)) (length (records_of trees)) (omega (arith, as_many, before))) refl,
            refl,
            ap (λ (b : ℕ). shift + b) (begins_there more draws ∙ ap (λ (k : ℕ). begins_at k line text 0) (sym e)),
          )
