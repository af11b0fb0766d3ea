-- What is read within some limits is read within wider ones, to the same tree; so a gene tree that `read` reads is read on a stand with the same names, to the same clusters (#110).
use Prim.Native.Nat.{ℕ, ◌≤◌}
use mathlib.Core.Path.{◌≡◌, sym, ap, ◌∙◌}
use mathlib.Core.List.{List}
use native.Mathlib.Omega.{arith}
use Rattle.std.proofs.Common.{None}
use Rattle.trees.specs.Tree.{Tree, clusters}
use Rattle.trees.specs.Records.{listed, record_for}
use Rattle.trees.proofs.Recorded.{listed_record}
use Rattle.roster.specs.Roster.{names}
use Rattle.roster.proofs.Names.{good-wider}
use Rattle.tokens.specs.Supports.{is_given, Threshold}
use Rattle.tokens.specs.Answers.Answer.{parsed}
use Rattle.nodes.specs.Grammar.{strict}
use Rattle.nodes.proofs.Deeper.{text_deeper}
use Rattle.reader.specs.Accepted.{DrawsWithin}
use Rattle.reader.specs.Promise.{Limits, narrow, answer_within, Reads}
use Rattle.reader.specs.WidePromise.{wide, ReadsWide}
use Rattle.reader.specs.declared.Kind.{Kind}
use Rattle.reader.specs.declared.Kind.TheVariants.{Gene}
use Rattle.reader.specs.declared.Reading.{Reading}
use Rattle.reader.specs.declared.wide.WideReading.{WideReading}
use Rattle.reader.proofs.Accepts.{accepted-derives, derives-accepted}
use Rattle.reader.proofs.Replies.{reads-zero}

-- more names may be on the roster, and more parentheses open at once
pub record Wider (limits limits' : Limits) : Type 0 where
  pub names_more : limits.most ≤ limits'.most
  pub room_more : limits.room ≤ limits'.room

-- a text draws the same tree
pub draws-wider :
    {limits limits' : Limits} {kind : Kind} {threshold : Threshold} {line text : List ℕ} {start : ℕ} {t : Tree} {rest : List ℕ} → Wider limits limits'
    → DrawsWithin limits kind threshold line text start t rest → DrawsWithin limits' kind threshold line text start t rest
draws-wider {limits} {limits'} {threshold = threshold} {line = line} w d = record {
  good = good-wider limits.most line d.good limits'.most w.names_more;
  short = d.short;
  inside = d.inside;
  derives = text_deeper (strict (is_given threshold) (names line)) limits'.room w.room_more d.derives;
  once = d.once;
  species = d.species;
}

-- and is answered by it
pub answer-wider :
    (limits limits' : Limits) (kind : Kind) (threshold : Threshold) (line text : List ℕ) (start : ℕ) {t : Tree} {rest : List ℕ} {q : ℕ} → Wider limits limits'
    → answer_within limits kind threshold line text start ≡ parsed t rest q → answer_within limits' kind threshold line text start ≡ parsed t rest q
answer-wider limits limits' kind threshold line text start {t} {rest} {q} w e =
    let d = (accepted-derives kind threshold line text start e).draws in
    let same = sym (derives-accepted kind threshold line text start d) ∙ e in
    derives-accepted kind threshold line text start (draws-wider {limits' = limits'} w d) ∙ same

-- ---- the calls

-- both read the tree: up to the same offset, to the same clusters
pub record ReadAlike (r : Reading) (q : WideReading) : Type 0 where
  pub done : q.number ≡ 0
  pub offset : q.next ≡ r.next
  pub same_clusters : listed q.numbers ≡ listed r.numbers

pub read_on_stand :
    (line text : List ℕ) (start : ℕ) (r : Reading) (q : WideReading) → Reads Gene None line text start r → ReadsWide line text start q → r.number ≡ 0
    → ReadAlike r q
unfolding ReadsWide
read_on_stand line text start r q reads reads' z =
    let w = reads-zero Gene None line text start reads z in
    let more : Wider narrow wide = record { names_more = omega arith; room_more = omega arith } in
    let e = answer-wider narrow wide Gene None line text start more w.answered in
    let recorded : q.numbers ≡ record_for 32 (clusters w.tree) = rw (reads', e) in
    record {
      done = rw (reads', e);
      offset = rw (reads', e);
      same_clusters = ap listed recorded ∙ listed_record 32 (clusters w.tree) ∙ sym (ap listed w.recorded ∙ listed_record 16 (clusters w.tree));
    }
