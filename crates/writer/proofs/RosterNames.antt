-- The names of a good roster, and where they stand in its table.
use Prim.Native.Nat.{ℕ, ◌≤◌, ◌<◌}
use mathlib.Core.Path.{◌≡◌, ◌∙◌}
use mathlib.Core.Bool.{false}
use mathlib.Core.List.{List, []}
use native.Mathlib.Omega.{arith}
use lib.ListN.{length, get_or}
use lib.Seq.{ext_get_or}
use Rattle.labels.specs.Writing.{Name}
use Rattle.trees.specs.Records.{GeneValid}
use Rattle.roster.specs.Roster.{names, faulty}
use Rattle.roster.specs.Table.{table}
use Rattle.roster.specs.Judged.{species_most}
use Rattle.roster.proofs.Each.{Each}
use Rattle.roster.proofs.Positions.{Distinct}
use Rattle.roster.proofs.Padding.{Fitting}
use Rattle.roster.proofs.Tables.{table-name-length, table-name-bytes}
use Rattle.roster.proofs.Names.{names-printable, names_some, names-short, names-count, names-distinct}
use Rattle.texts.specs.Writing.{written}
use Rattle.texts.specs.Work.{name_in, names_in}
use Rattle.texts.proofs.Lengths.{text-longest}
use Rattle.texts.proofs.TableNames.{names-length, names_at}

-- one to sixteen names, no two equal
pub record GoodNames (ns : List (List ℕ)) : Type 0 where
  pub some : 1 ≤ length ns
  pub few : length ns ≤ 16
  pub each : (i : ℕ) → i < length ns → Name (get_or ns i [])
  pub distinct : Distinct ns

pub good-names : (line : List ℕ) → faulty species_most line ≡ false → GoodNames (names line)
good-names line good = record {
  some = (names-count species_most line good).0;
  few = (names-count species_most line good).1;
  each = λ i h.
      record { some = names_some species_most line good i h; short = names-short species_most line good i h; printable = λ k l. names-printable line i k h l };
  distinct = names-distinct species_most line good;
}

-- no text on a good roster has more than 543 bytes
pub roster-longest : (line : List ℕ) {r : List ℕ} → faulty species_most line ≡ false → GeneValid (length (names line)) r → length (written (names line) r) ≤ 543
roster-longest line good v = let g = good-names line good in text-longest (names line) g.few v g.each g.distinct

-- ---- the table

module _ (ns : List (List ℕ)) (fit : Each Fitting ns) where
  -- each name stands in the table
  pub table-name : (i : ℕ) → i < length ns → name_in (table ns) i ≡ get_or ns i []
  unfolding name_in
  table-name i h = rw (table-name-length ns i h fit) (table-name-bytes ns i h fit)

  -- the table's names are these
  pub table-names : names_in (length ns) (table ns) ≡ ns
  table-names =
      let l = names-length (length ns) (table ns) in
      ext_get_or [] (names_in (length ns) (table ns)) ns l (λ i h. names_at (length ns) (table ns) i (omega arith) ∙ table-name i (omega arith))
