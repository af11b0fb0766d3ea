-- What the gene trees are that were gathered: valid records, 512 at the most; and where a refusal stands.
use Prim.Native.Nat.{ℕ, zero, suc, ◌+◌, ◌≤◌, ◌<◌}
use mathlib.Core.Path.{◌≡◌, refl, sym, ap, ◌∙◌, subst}
use mathlib.Core.Bool.{Bool, true, false}
use mathlib.Core.Logic.{⊎_elim}
use mathlib.Core.List.Memᴰ
use mathlib.Core.List.{List, [], ◌∷◌, ◌++◌, Memᴰ}
use native.Mathlib.Decide.{ℕ_discrete}
use native.Mathlib.Nat.{le_of_lt, le_of_eq}
use native.Mathlib.Omega.{arith}
use lib.ListN.{length, drop, length-append, length-drop}
use lib.Dec.{leb}
use borrow.Author.Tests.{leb-true, leb-false}
use Rattle.trees.specs.Tree.{Tree, clusters}
use Rattle.trees.specs.Records.{GeneValid, record_of, AllValid}
use Rattle.roster.specs.Roster.{names, faulty}
use Rattle.roster.specs.Judged.{species_most}
use Rattle.std.proofs.Common.{None}
use Rattle.tokens.specs.Answers.{Answer}
use Rattle.tokens.specs.Answers.Answer.{parsed, refused as refused_at}
use Rattle.nodes.specs.Reading.{open_most}
use Rattle.meanings.specs.Meaning.{Means}
use Rattle.reader.specs.Promise.{narrow, text_most, answer_to, reading_of}
use Rattle.reader.specs.declared.Kind.TheVariants.{Gene}
use Rattle.reader.proofs.Accepts.{answer_is_read, accepted-derives}
use Rattle.reader.proofs.Replies.{refusal_some, draws-gene}
use Rattle.reader.proofs.ByKind.{gene-never-nine}
use Rattle.meanings.proofs.Meaning.{refusal-said}
use Rattle.meanings.proofs.Refusals.{refusal-inside, refusal-numbers, says_10}
use Rattle.gather.specs.GeneTrees.{Gathered, Walked, genes_most, gather_on, gather_at, gather_more, begun, gather_to, walk, gather}
use Rattle.gather.specs.GeneTrees.Gathered.{gathered, stopped}

-- ---- what holds of each turn holds of the whole

-- R of the gene trees, or Q of the number and place of a refusal
abbrev Holds : (List (List ℕ) → Type 0) → (ℕ → ℕ → Type 0) → Gathered → Type 0
Holds R Q (gathered genes) = R genes
Holds R Q (stopped number place) = Q number place

-- P holds of the gene trees that were read and the place behind them; then R of all of them, or Q of a refusal
pub record Turns (line trees : List ℕ) (P : List (List ℕ) → ℕ → Type 0) (R : List (List ℕ) → Type 0) (Q : ℕ → ℕ → Type 0) : Type 0 where
  pub begins : P [] 0
  pub reads :
      {genes : List (List ℕ)} {at : ℕ} {t : Tree} {rest : List ℕ} {q : ℕ} → P genes at → begun trees at < length trees
      → answer_to Gene None line trees (begun trees at) ≡ parsed t rest q → P (genes ++ (record_of (clusters t) ∷ [])) q
  pub ends : {genes : List (List ℕ)} {at : ℕ} → P genes at → length genes ≤ genes_most → length trees ≤ begun trees at → R genes
  pub many : {genes : List (List ℕ)} {at : ℕ} → P genes at → length genes ≡ genes_most → begun trees at < length trees → Q 17 (begun trees at)
  pub refuses :
      {genes : List (List ℕ)} {at number place : ℕ} → P genes at → length genes < genes_most → begun trees at < length trees
      → answer_to Gene None line trees (begun trees at) ≡ refused_at number place → Q number place

module _ {line trees : List ℕ} {P : List (List ℕ) → ℕ → Type 0} {R : List (List ℕ) → Type 0} {Q : ℕ → ℕ → Type 0} (turns : Turns line trees P R Q) where
  -- k more turns are enough
  abbrev Kept : ℕ → Type 0
  Kept k =
      (genes : List (List ℕ)) (at : ℕ) → length genes ≤ genes_most → 513 ≤ length genes + k → P genes at → Holds R Q (gather_to k line trees genes at).says

  module _ (k : ℕ) (genes : List (List ℕ)) (at : ℕ) (few : length genes ≤ genes_most) (enough : 513 ≤ length genes + suc k) (now : P genes at) (later : Kept k) where
    abbrev next : List ℕ → ℕ → Walked
    next numbers at = gather_to k line trees (genes ++ (numbers ∷ [])) at

    answered :
        begun trees at < length trees → length genes < genes_most → (a : Answer Tree) → answer_to Gene None line trees (begun trees at) ≡ a
        → Holds R Q (gather_on (reading_of None (begun trees at) a).number (reading_of None (begun trees at) a) genes next).says
    answered inside room (parsed t rest q) e =
        let l = length-append genes (record_of (clusters t) ∷ []) in
        later (genes ++ (record_of (clusters t) ∷ [])) q (omega arith) (omega arith) (turns.reads now inside e)
    answered inside room (refused_at zero q) e = absurd (omega (arith, refusal_some narrow Gene None line trees (begun trees at) e))
    answered inside room (refused_at (suc number) q) e = turns.refuses now room inside e

    room : begun trees at < length trees → (b : Bool) → leb genes_most (length genes) ≡ b → Holds R Q (gather_at b line trees genes (begun trees at) next).says
    room inside true e = let full = leb-true genes_most (length genes) e in turns.many now (omega arith) inside
    room inside false e = answered inside (leb-false genes_most (length genes) e) (answer_to Gene None line trees (begun trees at)) refl

    turned : (b : Bool) → leb (length trees) (begun trees at) ≡ b → Holds R Q (gather_more b line trees genes (begun trees at) next).says
    turned true e = turns.ends now few (leb-true (length trees) (begun trees at) e)
    turned false e = room (leb-false (length trees) (begun trees at) e) (leb genes_most (length genes)) refl

  kept : (k : ℕ) → Kept k
  unfolding gather_to
  kept zero genes at few enough now = absurd (omega arith)
  kept (suc k) genes at few enough now = turned k genes at few enough now (kept k) (leb (length trees) (begun trees at)) refl

  gather-holds : Holds R Q (gather line trees)
  unfolding gather walk
  gather-holds = kept 514 [] 0 (omega arith) (omega arith) turns.begins

  pub gathered_so : {genes : List (List ℕ)} → gathered genes ≡ gather line trees → R genes
  gathered_so e = subst (Holds R Q) (sym e) gather-holds

  pub stopped_so : {number place : ℕ} → stopped number place ≡ gather line trees → Q number place
  stopped_so e = subst (Holds R Q) (sym e) gather-holds

-- ---- the place of a refusal, and one more valid record

byte-within : {ns : List (List ℕ)} {most needed : ℕ} {s : List ℕ} {d number : ℕ} → Means false ns most needed s d number → Dec (number ≡ 10) → d ≤ length s
byte-within {ns} {most} {needed} {s} {d} m (yes ten) = le_of_eq (says_10 false (subst (Means false ns most needed s d) ten m)).end
byte-within m (no other) = le_of_lt (refusal-inside false m other)

among :
    (n : ℕ) (genes : List (List ℕ)) (r : List ℕ) → AllValid n genes → GeneValid n r
    → (g : List ℕ) → Memᴰ g (genes ++ (r ∷ [])) → GeneValid n g
among n genes r all one g m =
    ⊎_elim (λ h. all g h) (λ h. subst (GeneValid n) (sym (Memᴰ.eq_of_singleton h)) one) (Memᴰ.append_cases genes m)

-- ---- one tree

-- a tree that is read has a valid gene record
read-valid :
    (line trees : List ℕ) (p : ℕ) {t : Tree} {rest : List ℕ} {q : ℕ} → answer_to Gene None line trees p ≡ parsed t rest q
    → GeneValid (length (names line)) (record_of (clusters t))
read-valid line trees p e = (draws-gene (accepted-derives Gene None line trees p e).draws).0

module _ (line trees : List ℕ) (good : faulty species_most line ≡ false) where
  -- one that is refused has a number from 3 on, and its place lies in the text
  refused-inside :
      (p : ℕ) {number q : ℕ} → length trees ≤ text_most → p < length trees → answer_to Gene None line trees p ≡ refused_at number q → (3 ≤ number) × (q ≤ length trees)
  refused-inside p {number} short inside e =
      let read = sym (answer_is_read narrow Gene None line trees p good short (omega arith)) ∙ e in
      let r = refusal-said false (names line) open_most 0 (drop p trees) p read in
      let d = byte-within r.means (ℕ_discrete number 10) in
      ((refusal-numbers false r.means).0, omega (arith, r.place, length-drop p trees))

-- ---- all of them

module _ (line trees : List ℕ) (good : faulty species_most line ≡ false) (short : length trees ≤ text_most) where
  -- valid records of gene trees, 512 at the most
  turns :
      Turns line trees (λ genes at. AllValid (length (names line)) genes) (λ genes. (length genes ≤ 512) × AllValid (length (names line)) genes)
      (λ number place. place ≤ length trees)
  turns = record {
    begins = λ g m. absurd (Memᴰ.not-nil m);
    reads = λ {genes} {at} {t} all inside e. among (length (names line)) genes (record_of (clusters t)) all (read-valid line trees (begun trees at) e);
    ends = λ all few none. (few, all);
    many = λ all full inside. omega arith;
    refuses = λ {genes} {at} all room inside e. (refused-inside line trees good (begun trees at) short inside e).1;
  }

  pub gathered_few : {genes : List (List ℕ)} → gathered genes ≡ gather line trees → length genes ≤ 512
  gathered_few e = (gathered_so turns e).0

  pub gathered-valid : {genes : List (List ℕ)} → gathered genes ≡ gather line trees → AllValid (length (names line)) genes
  gathered-valid e = (gathered_so turns e).1

  pub stopped-inside : {number place : ℕ} → stopped number place ≡ gather line trees → place ≤ length trees
  stopped-inside e = stopped_so turns e

-- "9 is shown never to occur for gene trees" (#104): of the program's
pub stopped-never-nine : (line trees : List ℕ) {number place : ℕ} → stopped number place ≡ gather line trees → number ≡ 9 → ⊥
stopped-never-nine line trees e = stopped_so turns e
  where
    turns : Turns line trees (λ genes at. Unit {0}) (λ genes. Unit {0}) (λ number place. number ≡ 9 → ⊥)
    turns = record {
      begins = tt;
      reads = λ now inside e. tt;
      ends = λ now few none. tt;
      many = λ now full inside nine. omega arith;
      refuses = λ {genes} {at} {number} {place} now room inside e nine. gene-never-nine narrow None line trees (begun trees at) (e ∙ ap (λ (m : ℕ). refused_at m place) nine);
    }
