-- The program stops among its gene trees exactly where one is refused or a 513th begins, with that number and place.
use Prim.Native.Nat.{ℕ, zero, suc, ◌+◌}
use mathlib.Core.Path.{◌≡◌, refl, sym, ap, ◌∙◌}
use mathlib.Core.Logic.{◌⊎◌, inl, inr}
use mathlib.Core.Bool.{Bool, true, false}
use mathlib.Core.List.{List, [], ◌∷◌, ◌++◌}
use native.Mathlib.Omega.{arith}
use lib.ListN.{length, drop, length-drop, length-map}
use lib.Seq.{drop-drop}
use lib.Dec.{leb}
use borrow.Author.Tests.{lt-leb, le-leb}
use Rattle.labels.specs.Bytes.{is_blank}
use Rattle.labels.proofs.Runs.{run-off}
use Rattle.trees.specs.Tree.{Tree, clusters}
use Rattle.trees.specs.Records.{record_of}
use Rattle.std.proofs.Common.{None}
use Rattle.tokens.specs.Tokens.{blanks, skip}
use Rattle.nodes.proofs.Exact.{blanks-skip}
use Rattle.reader.specs.Promise.{Reads}
use Rattle.reader.specs.declared.Kind.TheVariants.{Gene}
use Rattle.reader.specs.declared.Reading.{Reading}
use Rattle.gather.specs.GeneTrees.{Walked, genes_most, halted, gather_on, gather_at, begun, gather_to, gather}
use Rattle.gather.specs.GeneTrees.Gathered.{stopped}
use Rattle.demands.specs.TextFaults.{TextFault}
use Rattle.demands.specs.ProgramFaults.{MoreBehind, TreesFault}
use Rattle.demands.specs.ProgramFaults.TreesFault.{refused_tree, tree_513}
use Rattle.demands.proofs.TextFaults.{plain-fault-numbers}
use Rattle.demands.proofs.FirstDemand.{read-refused}
use Rattle.demands.proofs.Gathering.{records_of, stopped-fault, turns_to}

-- ---- where there is such a fault, the program stops

module _ (line txt : List ℕ) where
  -- "its first byte that is no blank" is where the program looks for a tree
  pub begins_at_lem : {trees : List Tree} {b : ℕ} (h : MoreBehind line txt trees b) → begun txt h.at ≡ b
  unfolding blanks skip
  begins_at_lem {b = b} h =
      let there : skip (drop h.at txt) ≡ drop b txt = blanks-skip h.gap (run-off is_blank txt b h.inside h.no_blank) in
      let same : length (drop (begun txt h.at) txt) ≡ length (drop b txt) =
      ap length (sym (drop-drop (blanks (drop h.at txt)) h.at txt) ∙ there)
      in
      omega (arith, h.inside, length-drop (begun txt h.at) txt, length-drop b txt)

  at_room :
      {trees : List Tree} {b : ℕ} (h : MoreBehind line txt trees b) (k : ℕ) (genes : List (List ℕ)) (full : Bool) → leb genes_most (length genes) ≡ full
      → gather_to (suc k) line txt genes h.at ≡ gather_at full line txt genes b (λ numbers next. gather_to k line txt (genes ++ (numbers ∷ [])) next)
  unfolding gather_to
  at_room {b = b} h k genes full e = rw (begins_at_lem h, lt-leb (length txt) b h.inside, e) refl

  halted_on : (r : Reading) (genes : List (List ℕ)) (next : List ℕ → ℕ → Walked) (number : ℕ) → (number ≡ 0 → ⊥) → gather_on number r genes next ≡ halted genes number r.place
  halted_on r genes next zero f = absurd (f refl)
  halted_on r genes next (suc number) f = refl

  pub fault-stops : {shift number place : ℕ} → TreesFault line txt shift number place → (q : ℕ) × (gather line txt ≡ stopped number q) × (place ≡ shift + q)
  unfolding Reads
  fault-stops (refused_tree {trees} {b} r h few reads f) = (
    r.place,
    turns_to line txt (halted (records_of trees) r.number r.place) h.trees_reach (omega arith) (λ k.
        at_room h k (records_of trees) false (lt-leb genes_most (length (records_of trees)) (omega (arith, length-map trees (λ (t : Tree). record_of (clusters t)))))
        ∙ rw (← reads) (halted_on r (records_of trees) (λ numbers next. gather_to k line txt (records_of trees ++ (numbers ∷ [])) next) r.number f)),
    refl,
  )
  fault-stops (tree_513 {trees} {b} h full) = (
    b,
    turns_to line txt (halted (records_of trees) 17 b) h.trees_reach (omega arith) (λ k.
        at_room h k (records_of trees) true (le-leb genes_most (length (records_of trees)) (omega (arith, length-map trees (λ (t : Tree). record_of (clusters t)))))),
    refl,
  )

-- ---- what the fault says of the text

-- a 513th tree, or a text from b on that has the fault of the number, at the place in the input
pub trees-fault-means :
    {line txt : List ℕ} {shift number place : ℕ} → TreesFault line txt shift number place
    → (number ≡ 17) ⊎ ((b : ℕ) × (q : ℕ) × TextFault Gene None line txt b number q × (place ≡ shift + q))
trees-fault-means {line} {txt} (refused_tree {b = b} r h few reads f) = inr (b, r.place, (read-refused Gene None line txt b r reads f).0, refl)
trees-fault-means (tree_513 h full) = inl refl

-- "14" is not said of a tree's text
pub stopped-early : (line txt : List ℕ) {number place : ℕ} → gather line txt ≡ stopped number place → number ≡ 14 → ⊥
stopped-early line txt {number} {place} e f = go (trees-fault-means (stopped-fault line txt 0 e))
  where
    go : (number ≡ 17) ⊎ ((b : ℕ) × (q : ℕ) × TextFault Gene None line txt b number q × (0 + place ≡ 0 + q)) → ⊥
    go (inl k) = omega arith
    go (inr h) = omega (arith, plain-fault-numbers h.2)
