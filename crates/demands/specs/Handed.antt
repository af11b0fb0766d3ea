-- What a machine can hand over to each call: bytes, numbers of sixteen, 32 and 64 bits, sizes, slices and records of them, and entries of a sheet.
use Rattle.std.specs.Prelude.{ℕ, ◌*◌, ◌^◌, ◌<◌, ◌≡◌, length}
use mathlib.Core.List.{List, Memᴰ}
use Rattle.trees.specs.Lists.{Among}
use Rattle.sheet.specs.declared.Entry.{Entry}

-- a size: what a `usize` holds
abbrev pub Size : ℕ → Type 0
Size k = k < 2 ^ 64

-- a slice of numbers below a bound, its length a size
pub record Slice (bound : ℕ) (l : List ℕ) : Type 0 where
  pub below : (x : ℕ) → Among x l → x < bound
  pub long : Size (length l)

-- a slice of bytes
abbrev pub Bytes : List ℕ → Type 0
Bytes l = Slice (2 ^ 8) l

-- a slice of sixteen-bit numbers
abbrev pub Numbers : List ℕ → Type 0
Numbers l = Slice (2 ^ 16) l

-- a slice of 32-bit numbers
abbrev pub WideNumbers : List ℕ → Type 0
WideNumbers l = Slice (2 ^ 32) l

-- a slice of 64-bit numbers
abbrev pub WidestNumbers : List ℕ → Type 0
WidestNumbers l = Slice (2 ^ 64) l

-- "A tree's record is 32 sixteen-bit numbers", valid or not
pub record AnyRecord (r : List ℕ) : Type 0 where
  pub numbers : Numbers r
  pub thirty_two : length r ≡ 32

-- what is handed over for reading, as either kind, with any threshold or without one
pub record ToRead (line text : List ℕ) (start : ℕ) : Type 0 where
  pub line_bytes : Bytes line
  pub text_bytes : Bytes text
  pub start_size : Size start

-- for writing
pub record ToWrite (line tree out : List ℕ) : Type 0 where
  pub line_bytes : Bytes line
  pub tree_record : AnyRecord tree
  pub out_bytes : Bytes out

-- n, the gene trees and their count, with which the other calls begin
pub record GeneTrees (n : ℕ) (genes : List ℕ) (count : ℕ) : Type 0 where
  pub species_size : Size n
  pub genes_numbers : Numbers genes
  pub count_size : Size count

-- for the weight of a cluster
pub record ToWeigh (n : ℕ) (genes : List ℕ) (count cluster : ℕ) : Type 0 where
  pub gene_trees : GeneTrees n genes count
  pub cluster_size : Size cluster

-- for the score of a species tree
pub record ToScore (n : ℕ) (genes : List ℕ) (count : ℕ) (species : List ℕ) : Type 0 where
  pub gene_trees : GeneTrees n genes count
  pub species_record : AnyRecord species

-- for marking
pub record ToMark (n : ℕ) (genes : List ℕ) (count : ℕ) (out : List ℕ) : Type 0 where
  pub gene_trees : GeneTrees n genes count
  pub out_bytes : Bytes out

-- for the search
pub record ToSearch (n : ℕ) (genes : List ℕ) (count : ℕ) (allowed scores splits : List ℕ) : Type 0 where
  pub gene_trees : GeneTrees n genes count
  pub allowed_bytes : Bytes allowed
  pub scores_numbers : WideNumbers scores
  pub splits_numbers : Numbers splits

-- for the engine that goes through all trees, which is lent no table (#108)
pub record ToPlain (n : ℕ) (genes : List ℕ) (count : ℕ) (allowed : List ℕ) : Type 0 where
  pub gene_trees : GeneTrees n genes count
  pub allowed_bytes : Bytes allowed

-- for the search with ties, which is lent a third table (#111)
pub record ToTie (n : ℕ) (genes : List ℕ) (count : ℕ) (allowed scores splits ties : List ℕ) : Type 0 where
  pub to_search : ToSearch n genes count allowed scores splits
  pub ties_numbers : WidestNumbers ties

-- for checking a tree that came with branch counts (#114): a text and two tables, gene trees between them
pub record ToCheck (line text : List ℕ) (start : ℕ) (genes : List ℕ) (count : ℕ) (scores splits : List ℕ) : Type 0 where
  pub to_read : ToRead line text start
  pub genes_numbers : Numbers genes
  pub count_size : Size count
  pub scores_numbers : WideNumbers scores
  pub splits_numbers : Numbers splits

-- for writing one (#114)
pub record ToWriteCounts (line genes : List ℕ) (count : ℕ) (species out : List ℕ) : Type 0 where
  pub to_write : ToWrite line species out
  pub genes_numbers : Numbers genes
  pub count_size : Size count

-- an entry of a sheet (#107): any position, and whatever stands in its number and score
pub record AnyEntry (e : Entry) : Type 0 where
  pub position_size : Size e.position
  pub number_fits : e.number < 2 ^ 32
  pub score_size : Size e.score

-- for a sheet of candidate trees: any numbers for the records, and entries of 24 bytes each, which a slice holds below 2^63 bytes
pub record ToSheet (n : ℕ) (genes : List ℕ) (count : ℕ) (records : List ℕ) (entries : List Entry) : Type 0 where
  pub gene_trees : GeneTrees n genes count
  pub records_numbers : Numbers records
  pub each_entry : (e : Entry) → Memᴰ e entries → AnyEntry e
  pub entries_size : 24 * length entries < 2 ^ 63
