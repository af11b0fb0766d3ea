-- Where the tree of an index begins: at the place at which it was read, inside the text.
use Prim.Native.Nat.{ℕ, zero, suc, ◌+◌, ◌-◌, ◌≤◌, ◌<◌}
use mathlib.Core.Path.{◌≡◌, refl, sym, ap, ◌∙◌, subst}
use mathlib.Core.List.{List, [], ◌∷◌, ◌++◌}
use native.Mathlib.Omega.{arith}
use native.Mathlib.Decide.{dec_lt}
use lib.ListN.{length, get_or, length-append, get_or-append}
use lib.Seq.{get_or_at}
use Rattle.trees.specs.Tree.{Tree, clusters}
use Rattle.trees.specs.Records.{record_of}
use Rattle.std.proofs.Common.{None}
use Rattle.tokens.specs.Answers.Answer.{parsed}
use Rattle.reader.specs.Promise.{answer_to, reading_of, Reads}
use Rattle.reader.specs.declared.Kind.TheVariants.{Gene}
use Rattle.reader.specs.declared.Reading.{Reading}
use Rattle.gather.specs.GeneTrees.{begun, gather, end_of, begins_at}
use Rattle.gather.specs.GeneTrees.Gathered.{gathered}
use Rattle.gather.proofs.GeneTrees.{Turns, gathered_so}

-- ---- the loop

-- i trees have been passed, and the next begins at `at`
pub record Passed (line trees : List ℕ) (index at i : ℕ) : Type 0 where
  pub few : i ≤ index
  pub behind : ℕ
  pub stands : at ≡ begun trees behind
  pub same : begins_at (index - i) line trees behind ≡ begins_at index line trees 0

-- at first none is passed
pub passed_none : {line trees : List ℕ} {index at : ℕ} → at ≡ begun trees 0 → Passed line trees index at 0
passed_none {line} {trees} {index} e =
    let all : index - 0 ≡ index = omega arith in record { few = omega arith; behind = 0; stands = e; same = ap (λ (k : ℕ). begins_at k line trees 0) all }

module _ {line trees : List ℕ} {index at i : ℕ} (now : Passed line trees index at i) where
  -- one is read again, and passed
  pub passed_more :
      {at' : ℕ} (r : Reading) → i < index → Reads Gene None line trees at r → at' ≡ begun trees r.next → Passed line trees index at' (i + 1)
  unfolding Reads begins_at
  passed_more r h read e =
      let turns : index - i ≡ suc (index - (i + 1)) = omega arith in
      record {
        few = omega arith;
        behind = r.next;
        stands = e;
        same =
            ap (λ (q : Reading). begins_at (index - (i + 1)) line trees q.next) read
            ∙ ap (λ (p : ℕ). begins_at (index - (i + 1)) line trees (end_of line trees p)) now.stands
            ∙ (rw turns at now.same);
      }

  -- where as many are passed as the index says, its tree begins there
  pub passed_all : index ≤ i → at ≡ begins_at index line trees 0
  unfolding begins_at
  passed_all h = let none : index - i ≡ 0 = omega arith in now.stands ∙ (rw none at now.same)

-- ---- the trees that were gathered

-- the tree behind that of an index begins behind its end
pub begins_next : (line trees : List ℕ) (i at : ℕ) → begins_at (suc i) line trees at ≡ begun trees (end_of line trees (begins_at i line trees at))
unfolding begins_at
begins_next line trees zero at = refl
begins_next line trees (suc i) at = begins_next line trees i (end_of line trees (begun trees at))

-- a tree with this record was read at p, inside the text
pub record ReadAt (line trees : List ℕ) (p : ℕ) (g : List ℕ) : Type 0 where
  pub inside : p < length trees
  pub tree : Tree
  pub rest : List ℕ
  pub next : ℕ
  pub read : answer_to Gene None line trees p ≡ parsed tree rest next
  pub recorded : g ≡ record_of (clusters tree)

-- each of these trees was read where the tree of its index begins, and the next begins behind `at`
record BegunTo (line trees : List ℕ) (genes : List (List ℕ)) (at : ℕ) : Type 0 where
  next : begun trees at ≡ begins_at (length genes) line trees 0
  each : (i : ℕ) → i < length genes → ReadAt line trees (begins_at i line trees 0) (get_or genes i [])

module _ (line trees : List ℕ) where
  with_more :
      {genes : List (List ℕ)} {at : ℕ} {t : Tree} {rest : List ℕ} {q : ℕ} → BegunTo line trees genes at → begun trees at < length trees
      → answer_to Gene None line trees (begun trees at) ≡ parsed t rest q → BegunTo line trees (genes ++ (record_of (clusters t) ∷ [])) q
  with_more {genes} {at} {t} {rest} {q} now inside e =
      let l : length (genes ++ (record_of (clusters t) ∷ [])) ≡ suc (length genes) = omega (arith, length-append genes (record_of (clusters t) ∷ [])) in
      let ends : end_of line trees (begins_at (length genes) line trees 0) ≡ q =
      ap (end_of line trees) (sym now.next) ∙ ap (λ a. (reading_of None (begun trees at) a).next) e
      in
      record {
        next = sym (ap (λ (k : ℕ). begins_at k line trees 0) l ∙ begins_next line trees (length genes) 0 ∙ ap (begun trees) ends);
        each = λ i h. each i (dec_lt i (length genes)) (omega arith);
      }
    where
      last : ReadAt line trees (begun trees at) (record_of (clusters t))
      last = record { inside = inside; tree = t; rest = rest; next = q; read = e; recorded = refl }

      each : (i : ℕ) → Dec (i < length genes) → i ≤ length genes → ReadAt line trees (begins_at i line trees 0) (get_or (genes ++ (record_of (clusters t) ∷ [])) i [])
      each i (yes h) k = rw (get_or-append genes (record_of (clusters t) ∷ []) [] i h) (now.each i h)
      each i (no h) k =
          let here : length genes ≡ i = omega (arith, h) in
          rw (get_or_at genes (record_of (clusters t)) [] [] i here)
          (subst (λ (p : ℕ). ReadAt line trees p (record_of (clusters t))) (now.next ∙ ap (λ (k : ℕ). begins_at k line trees 0) here) last)

  turns :
      Turns line trees (BegunTo line trees) (λ genes. (i : ℕ) → i < length genes → ReadAt line trees (begins_at i line trees 0) (get_or genes i []))
      (λ number place. Unit {0})
  unfolding begins_at
  turns = record {
    begins = record { next = refl; each = λ i h. absurd (omega arith) };
    reads = with_more;
    ends = λ now few none. now.each;
    many = λ now full inside. tt;
    refuses = λ now room inside e. tt;
  }

  -- the tree of an index that was gathered was read where the tree of this index begins, inside the text
  pub gathered_begins :
      {genes : List (List ℕ)} → gathered genes ≡ gather line trees → (i : ℕ) → i < length genes → ReadAt line trees (begins_at i line trees 0) (get_or genes i [])
  gathered_begins e = gathered_so turns e
