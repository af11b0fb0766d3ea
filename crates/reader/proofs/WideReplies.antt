-- What a reply of `read_stand` says (#110): exactly the texts are read that draw, within its limits, a tree with each of its individuals once; the record is that of its clusters, and valid.
use Prim.Native.Nat.{ℕ, ◌-◌}
use mathlib.Core.Path.{◌≡◌, refl, ap, ◌∙◌}
use mathlib.Core.Logic.{◌↔◌}
use mathlib.Core.List.{List}
use native.Mathlib.Omega.{arith}
use lib.ListN.{length, replicate}
use Rattle.std.proofs.Common.{None}
use Rattle.trees.specs.Tree.{Tree, cluster, clusters}
use Rattle.trees.specs.Records.{record_for, largest, GeneValidFor}
use Rattle.roster.specs.Roster.{names}
use Rattle.tokens.specs.Answers.{Answer}
use Rattle.tokens.specs.Answers.Answer.{parsed, refused}
use Rattle.reader.specs.Accepted.{DrawsOnStand, JustBehind}
use Rattle.reader.specs.WidePromise.{wide, stand_answer, wide_reading_of, ReadsWide}
use Rattle.reader.specs.declared.Kind.TheVariants.{Gene}
use Rattle.reader.specs.declared.wide.WideReading.{WideReading}
use Rattle.reader.proofs.Accepts.{accepted-derives, derives-accepted}
use Rattle.reader.proofs.ByKind.{gene-never-nine}
use Rattle.reader.proofs.ByThreshold.{without-never-eighteen}
use Rattle.reader.proofs.Replies.{refusal_some, draws-gene}

-- a tree was read: the text draws it, the offset is the one just after its `;`, and the record is that of its clusters, a valid gene record for the individuals
pub record ReadOnStand (individuals text : List ℕ) (start : ℕ) (q : WideReading) : Type 0 where
  pub tree : Tree
  pub rest : List ℕ
  pub draws : DrawsOnStand individuals text start tree rest
  pub behind : JustBehind text start rest q.next
  pub recorded : q.numbers ≡ record_for 32 (clusters tree)
  pub gene : GeneValidFor 32 (length (names individuals)) q.numbers
  pub whole_set : largest q.numbers ≡ cluster tree

-- a refusal: what is answered is its number and place, and all else is as it was given, or zero
pub record RefusedOnStand (individuals text : List ℕ) (start : ℕ) (q : WideReading) : Type 0 where
  pub answered : stand_answer individuals text start ≡ refused q.number q.place
  pub offset : q.next ≡ start
  pub zeros : q.numbers ≡ replicate 64 0

module _ (individuals text : List ℕ) (start : ℕ) (q : WideReading) (reads : ReadsWide individuals text start q) where
  pub stand_read : q.number ≡ 0 → ReadOnStand individuals text start q
  unfolding ReadsWide
  stand_read z = by (stand_answer individuals text start) refl
    where
      by : (a : Answer Tree) → stand_answer individuals text start ≡ a → ReadOnStand individuals text start q
      by (parsed t rest n) e =
          let a = accepted-derives Gene None individuals text start e in
          let g = draws-gene a.draws in
          let r : q.numbers ≡ record_for 32 (clusters t) = rw (reads, e) in
          record {
            tree = t;
            rest = rest;
            draws = a.draws;
            behind = rw (reads, e) a.place;
            recorded = r;
            gene = rw r g.0;
            whole_set = ap largest r ∙ g.1;
          }
      by (refused n p) e =
          let l : q.number ≡ n = rw (reads, e) in
          absurd (omega (arith, refusal_some wide Gene None individuals text start e))

  pub stand-refused : (q.number ≡ 0 → ⊥) → RefusedOnStand individuals text start q
  unfolding ReadsWide
  stand-refused some = by (stand_answer individuals text start) refl
    where
      by : (a : Answer Tree) → stand_answer individuals text start ≡ a → RefusedOnStand individuals text start q
      by (parsed t rest n) e = absurd (some (rw (reads, e)))
      by (refused n p) e = record { answered = rw (reads, e); offset = rw (reads, e); zeros = rw (reads, e) }

  -- a tree that the text draws is read, to its record
  pub stand-reads-drawn :
      {t : Tree} {rest : List ℕ} → DrawsOnStand individuals text start t rest
      → q ≡ record { number = 0; place = 0; next = length text - length rest; numbers = record_for 32 (clusters t) }
  unfolding ReadsWide
  stand-reads-drawn d = reads ∙ ap (wide_reading_of start) (derives-accepted Gene None individuals text start d)

  -- so a text is read exactly when it draws a tree
  pub stand_exactly : (q.number ≡ 0) ↔ ((t : Tree) × (rest : List ℕ) × DrawsOnStand individuals text start t rest)
  stand_exactly = (
    λ z. let r = stand_read z in (r.tree, r.rest, r.draws),
    λ d. ap (λ (q : WideReading). q.number) (stand-reads-drawn d.2),
  )

  -- "9 is shown never to occur for gene trees" (#104)
  pub stand-never-nine : q.number ≡ 9 → ⊥
  stand-never-nine nine =
      let r = stand-refused (λ z. omega arith) in
      gene-never-nine wide None individuals text start (r.answered ∙ ap (λ (n : ℕ). refused n q.place) nine)

  -- nor does 18, without a threshold (#113)
  pub stand-never-eighteen : q.number ≡ 18 → ⊥
  stand-never-eighteen eighteen =
      let r = stand-refused (λ z. omega arith) in
      without-never-eighteen wide Gene individuals text start (r.answered ∙ ap (λ (n : ℕ). refused n q.place) eighteen)
