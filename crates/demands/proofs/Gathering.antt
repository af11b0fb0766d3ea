-- The gene trees that the program gathers are those that stand in its input, one after the other, and it gathers all of them, unless it stops at a fault.
use Prim.Native.Nat.{ℕ, zero, suc, ◌+◌, ◌-◌, ◌≤◌, ◌<◌}
use mathlib.Core.Path.{◌≡◌, refl, sym, ap, ◌∙◌, subst}
use mathlib.Core.Logic.{◌⊎◌, inl, inr}
use mathlib.Core.Bool.{false}
use mathlib.Core.List.Memᴰ
use mathlib.Core.List.{List, [], ◌∷◌, ◌++◌, map, map-append, Memᴰ}
use native.Mathlib.Omega.{arith}
use lib.ListN.{length, drop, length-append, length-drop, length-map, drop_of_length-le}
use lib.Seq.{drop-drop, get_or-drop}
use borrow.Author.Tests.{le-leb, lt-leb}
use Rattle.labels.specs.Bytes.{is_blank, run}
use Rattle.labels.proofs.Runs.{run-within, run-behind}
use Rattle.trees.specs.Tree.{Tree, clusters}
use Rattle.trees.specs.Records.{record_of}
use Rattle.roster.specs.Roster.{names}
use Rattle.std.proofs.Common.{None}
use Rattle.tokens.specs.Answers.Answer.{parsed, refused}
use Rattle.tokens.specs.Tokens.{blanks, skip}
use Rattle.nodes.specs.Grammar.{Rules, Blanks, Text}
use Rattle.nodes.specs.Grammar.Blanks.{none, blank}
use Rattle.nodes.specs.Grammar.Node.{a_leaf, an_inner, a_single}
use Rattle.nodes.specs.Grammar.Text.{text}
use Rattle.reader.specs.Promise.{narrow, reading_of, answer_to, Reads}
use Rattle.reader.specs.Accepted.{Draws, JustBehind}
use Rattle.reader.specs.declared.Kind.TheVariants.{Gene}
use Rattle.reader.proofs.Accepts.{accepted-derives, derives-accepted}
use Rattle.reader.proofs.Replies.{refusal_some}
use Rattle.labels.proofs.Spelled.{spells_first}
use Rattle.nodes.proofs.Exact.{blanks-skip, skip_to, label_no_blank}
use Rattle.meanings.proofs.MeaningContexts.{node-behind-blanks}
use Rattle.nodes.proofs.Sound.{skip-blanks}
use Rattle.gather.specs.GeneTrees.{Walked, genes_most, ended, begun, gather_to, walk, gather}
use Rattle.gather.specs.GeneTrees.Gathered.{gathered, stopped}
use Rattle.gather.proofs.GeneTrees.{Turns, gathered_so, stopped_so}
use Rattle.demands.specs.GeneTrees.{OnSome, RecordsOf}
use Rattle.demands.specs.Input.{TreesTo, TreesStand}
use Rattle.demands.specs.Input.TreesTo.{no_tree_yet, with_more}
use Rattle.demands.specs.ProgramFaults.{MoreBehind, TreesFault}
use Rattle.demands.specs.ProgramFaults.TreesFault.{refused_tree, tree_513}

-- ---- blanks before a tree

text-behind-blanks : {R : Rules} {k : ℕ} {s m rest : List ℕ} {t : Tree} → Blanks s m → Text R k m t rest → Text R k s t rest
text-behind-blanks b (text d ends) = text (node-behind-blanks b d) ends

module _ (line txt : List ℕ) (at : ℕ) where
  blanks_from : Blanks (drop at txt) (drop (begun txt at) txt)
  unfolding blanks skip
  blanks_from = rw (← drop-drop (blanks (drop at txt)) at txt) (skip-blanks (drop at txt))

  -- a tree drawn behind blanks is drawn with them
  draws-behind-blanks : {t : Tree} {rest : List ℕ} → Draws Gene None line txt (begun txt at) t rest → Draws Gene None line txt at t rest
  draws-behind-blanks d = record {
    good = d.good;
    short = d.short;
    inside = let h = d.inside in omega arith;
    derives = text-behind-blanks blanks_from d.derives;
    once = d.once;
    species = d.species;
  }

  behind-blanks : {rest : List ℕ} {q : ℕ} → JustBehind txt (begun txt at) rest q → JustBehind txt at rest q
  behind-blanks b = record { after = let h = b.after in omega arith; within = b.within; left = b.left }

  -- behind the trees that were read more stands there
  pub more_behind : {trees : List Tree} → TreesTo line txt trees at → begun txt at < length txt → MoreBehind line txt trees (begun txt at)
  unfolding blanks
  more_behind trees inside = record {
    at = at;
    trees_reach = trees;
    gap = blanks_from;
    inside = inside;
    no_blank = subst (λ (b : ℕ). is_blank b ≡ false) (get_or-drop at txt (blanks (drop at txt)) 0) (run-behind is_blank refl (drop at txt));
  }

-- ---- tree after tree

-- the records of trees
abbrev pub records_of : List Tree → List (List ℕ)
records_of trees = map (λ (t : Tree). record_of (clusters t)) trees

-- the trees that were read stand up to an offset
record ReadTo (line txt : List ℕ) (genes : List (List ℕ)) (at : ℕ) : Type 0 where
  trees : List Tree
  trees_reach : TreesTo line txt trees at
  records : genes ≡ records_of trees

as_many : {line txt : List ℕ} {genes : List (List ℕ)} {at : ℕ} (r : ReadTo line txt genes at) → length genes ≡ length r.trees
as_many r = ap length r.records ∙ length-map r.trees (λ (t : Tree). record_of (clusters t))

pub stopped-gathered : {number place : ℕ} {genes : List (List ℕ)} → stopped number place ≡ gathered genes → ⊥
stopped-gathered e = let z : ◌≡◌ {A = ℕ} 0 1 = cc in omega arith

-- each tree that stands there has each of its species once, and these are some of the roster's
pub each_on : {line txt : List ℕ} {at : ℕ} {trees : List Tree} → TreesTo line txt trees at → (t : Tree) → Memᴰ t trees → OnSome (length (names line)) t
each_on no_tree_yet t m = absurd (Memᴰ.not-nil m)
each_on {line} (with_more {trees = trees} {t = u} before d j) t m = go (Memᴰ.append_cases trees m) (λ k. each_on before t k)
  where
    go : Memᴰ t trees ⊎ Memᴰ t (u ∷ []) → (Memᴰ t trees → OnSome (length (names line)) t) → OnSome (length (names line)) t
    go (inl k) h = h k
    go (inr k) h = subst (OnSome (length (names line))) (sym (Memᴰ.eq_of_singleton k)) (record { once = d.once; species = d.species })

-- the trees that stand in a text have these records
pub standing_records : {line txt : List ℕ} {trees : List Tree} → TreesStand line txt trees → RecordsOf (length (names line)) (records_of trees) trees
standing_records s = record { records = refl; on = each_on s.trees_reach }

-- the trees that were gathered from a text
pub record GatheredFrom (line txt : List ℕ) (genes : List (List ℕ)) : Type 0 where
  pub trees : List Tree
  pub stand : TreesStand line txt trees
  pub records : RecordsOf (length (names line)) genes trees
  pub few : length genes ≤ genes_most

-- turn by turn: what is read stands there, to the end, or up to a fault
turns : (line txt : List ℕ) (shift : ℕ) → Turns line txt (ReadTo line txt) (GatheredFrom line txt) (λ number place. TreesFault line txt shift number (shift + place))
unfolding Reads
turns line txt shift = record { begins = record { trees = []; trees_reach = no_tree_yet; records = refl }; reads = reads; ends = ends; many = many; refuses = refuses }
  where
    reads :
        {genes : List (List ℕ)} {at : ℕ} {t : Tree} {rest : List ℕ} {q : ℕ} → ReadTo line txt genes at → begun txt at < length txt
        → answer_to Gene None line txt (begun txt at) ≡ parsed t rest q
        → ReadTo line txt (genes ++ (record_of (clusters t) ∷ [])) q
    reads {at = at} {t = t} now inside e =
        let a = accepted-derives Gene None line txt (begun txt at) e in
        record {
          trees = now.trees ++ (t ∷ []);
          trees_reach = with_more now.trees_reach (draws-behind-blanks line txt at a.draws) (behind-blanks line txt at a.place);
          records =
              ap (λ (l : List (List ℕ)). l ++ (record_of (clusters t) ∷ [])) now.records
              ∙ sym (map-append (λ (t : Tree). record_of (clusters t)) now.trees (t ∷ []));
        }

    ends : {genes : List (List ℕ)} {at : ℕ} → ReadTo line txt genes at → length genes ≤ genes_most → length txt ≤ begun txt at → GatheredFrom line txt genes
    ends {at = at} now few over = record {
      trees = now.trees;
      stand = record {
        end = at;
        trees_reach = now.trees_reach;
        only_blanks = subst (λ (l : List ℕ). Blanks (drop at txt) l) (drop_of_length-le txt {i = begun txt at} over) (blanks_from line txt at);
      };
      records = record { records = now.records; on = each_on now.trees_reach };
      few = few;
    }

    many :
        {genes : List (List ℕ)} {at : ℕ} → ReadTo line txt genes at → length genes ≡ genes_most → begun txt at < length txt
        → TreesFault line txt shift 17 (shift + begun txt at)
    many {at = at} now full inside = tree_513 (more_behind line txt at now.trees_reach inside) (sym (as_many now) ∙ full)

    refuses :
        {genes : List (List ℕ)} {at number place : ℕ} → ReadTo line txt genes at → length genes < genes_most → begun txt at < length txt
        → answer_to Gene None line txt (begun txt at) ≡ refused number place → TreesFault line txt shift number (shift + place)
    refuses {at = at} {number} {place} now room inside e =
        let some = refusal_some narrow Gene None line txt (begun txt at) e in
        refused_tree (reading_of None (begun txt at) (refused number place)) (more_behind line txt at now.trees_reach inside) (omega (arith, as_many now))
        (ap (reading_of None (begun txt at)) (sym e)) (λ z. omega arith)

pub gathered_from : (line txt : List ℕ) (genes : List (List ℕ)) → gather line txt ≡ gathered genes → GatheredFrom line txt genes
gathered_from line txt genes e = gathered_so (turns line txt 0) (sym e)

-- where the program stops, there is such a fault
pub stopped-fault : (line txt : List ℕ) (shift : ℕ) {number place : ℕ} → gather line txt ≡ stopped number place → TreesFault line txt shift number (shift + place)
stopped-fault line txt shift e = stopped_so (turns line txt shift) (sym e)

-- ---- and the other way: what stands there is gathered

blanks_all : {s : List ℕ} → Blanks s [] → blanks s ≡ length s
unfolding blanks run
blanks_all none = refl
blanks_all (blank e b) = rw e (ap suc (blanks_all b))

text-without-blanks : {R : Rules} {k : ℕ} {s rest : List ℕ} {t : Tree} → Text R k s t rest → Text R k (skip s) t rest
text-without-blanks (text (a_leaf {s₁ = m} gap w known behind) ends) =
    text (a_leaf (subst (λ (l : List ℕ). Blanks l m) (sym (blanks-skip gap (label_no_blank m (spells_first w)))) none) w known behind) ends
text-without-blanks (text (an_inner {s₁ = m} opens first comma others inner behind) ends) =
    text (an_inner (subst (λ (l : List ℕ). Blanks l (40 ∷ m)) (sym (skip_to 40 refl opens)) none) first comma others inner behind) ends
text-without-blanks (text (a_single {s₁ = m} enough opens only closes inner behind) ends) =
    text (a_single enough (subst (λ (l : List ℕ). Blanks l (40 ∷ m)) (sym (skip_to 40 refl opens)) none) only closes inner behind) ends

module _ (line txt : List ℕ) (at : ℕ) where
  begun-within : at ≤ length txt → begun txt at ≤ length txt
  unfolding blanks
  begun-within h = omega (arith, run-within is_blank (drop at txt), length-drop at txt)

  -- a tree drawn with blanks before it is drawn behind them
  pub draws_from_begun : {t : Tree} {rest : List ℕ} → Draws Gene None line txt at t rest → Draws Gene None line txt (begun txt at) t rest
  unfolding blanks skip
  draws_from_begun d = record {
    good = d.good;
    short = d.short;
    inside = begun-within d.inside;
    derives = rw (← drop-drop (blanks (drop at txt)) at txt) (text-without-blanks d.derives);
    once = d.once;
    species = d.species;
  }

  -- so it is read there
  pub reads_from_begun :
      {t : Tree} {rest : List ℕ} {next : ℕ} → Draws Gene None line txt at t rest → JustBehind txt at rest next
      → (begun txt at < length txt) × (answer_to Gene None line txt (begun txt at) ≡ parsed t rest next)
  reads_from_begun {t} {rest} {next} d j =
      let e = derives-accepted Gene None line txt (begun txt at) (draws_from_begun d) in
      let p = (accepted-derives Gene None line txt (begun txt at) e).place in
      let l : length rest ≡ length txt - next = ap length j.left ∙ length-drop next txt in
      let q : length txt - length rest ≡ next = let w = j.within in omega arith in
      (let a = p.after in let w = p.within in omega arith, e ∙ ap (λ (q : ℕ). parsed t rest q) q)

module _ (line txt : List ℕ) where
  -- a tree that is read is one more turn
  step :
      (k : ℕ) (genes : List (List ℕ)) (at : ℕ) {t : Tree} {rest : List ℕ} {next : ℕ}
      → begun txt at < length txt → length genes < genes_most → answer_to Gene None line txt (begun txt at) ≡ parsed t rest next
      → gather_to (suc k) line txt genes at ≡ gather_to k line txt (genes ++ (record_of (clusters t) ∷ [])) next
  unfolding gather_to
  step k genes at inside few e = rw (lt-leb (length txt) (begun txt at) inside, lt-leb genes_most (length genes) few, e) refl

  -- the program comes to the offset behind these trees, with turns left
  record Comes (trees : List Tree) (at : ℕ) : Type 0 where
    k : ℕ
    turns_left : suc k + length trees ≡ 514
    same : walk line txt ≡ gather_to (suc k) line txt (records_of trees) at

  comes : {trees : List Tree} {at : ℕ} → TreesTo line txt trees at → length trees ≤ genes_most → Comes trees at
  unfolding walk
  comes no_tree_yet h = record { k = 513; turns_left = refl; same = refl }
  comes (with_more {trees} {at} {next} {t} before d j) h = go (comes before (omega (arith, length-append trees (t ∷ []))))
    where
      go : Comes trees at → Comes (trees ++ (t ∷ [])) next
      go c = turn c.k refl
        where
          turn : (k : ℕ) → c.k ≡ k → Comes (trees ++ (t ∷ [])) next
          turn zero e = absurd (omega (arith, c.turns_left, length-append trees (t ∷ [])))
          turn (suc k) e =
              let r = reads_from_begun line txt at d j in
              let few : length (records_of trees) < genes_most = omega (arith, length-map trees (λ (t : Tree). record_of (clusters t)), length-append trees (t ∷ [])) in
              record {
                k = k;
                turns_left = omega (arith, c.turns_left, length-append trees (t ∷ []));
                same =
                    c.same ∙ ap (λ (k : ℕ). gather_to (suc k) line txt (records_of trees) at) e
                    ∙ step (suc k) (records_of trees) at r.0 few r.1
                    ∙ ap (λ (l : List (List ℕ)). gather_to (suc k) line txt l next) (sym (map-append (λ (t : Tree). record_of (clusters t)) trees (t ∷ [])));
              }

  -- what one turn more gives there is given
  pub turns_to :
      {trees : List Tree} {at : ℕ} (w : Walked) → TreesTo line txt trees at → length trees ≤ genes_most
      → ((k : ℕ) → gather_to (suc k) line txt (records_of trees) at ≡ w) → gather line txt ≡ w.says
  unfolding gather
  turns_to w trees few turn = let c = comes trees few in ap (λ (w : Walked). w.says) (c.same ∙ turn c.k)

-- behind the last tree that stands in a text none begins
pub stand_ends : (line txt : List ℕ) {trees : List Tree} (s : TreesStand line txt trees) → length txt ≤ begun txt s.end
stand_ends line txt s = omega (arith, blanks_all s.only_blanks, length-drop s.end txt)

-- the gene trees that stand in a text are gathered
pub gathers_standing : (line txt : List ℕ) {trees : List Tree} → TreesStand line txt trees → length trees ≤ genes_most → gather line txt ≡ gathered (records_of trees)
unfolding gather_to
gathers_standing line txt {trees} s few =
    turns_to line txt (ended (records_of trees)) s.trees_reach few
    (λ k. rw (le-leb (length txt) (begun txt s.end) (stand_ends line txt s)) refl)
