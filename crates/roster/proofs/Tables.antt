-- The table of names: how long it is, what its sixteens are, and one name more.
use Prim.Native.Nat.{ℕ, zero, suc, ◌+◌, ◌-◌, ◌*◌, ◌≤◌, ◌<◌, zero-le, suc-le-suc}
use native.Mathlib.Nat.{not-suc-le-zero, le_of_suc-le-suc, suc-sub-suc, sub-zero, zero-sub}
use native.Mathlib.Omega.{arith}
use mathlib.Core.Path.{◌≡◌, refl, sym, ap, ap₂, ◌∙◌}
use mathlib.Core.List.{List, [], ◌∷◌, ◌++◌, map, append-nil, append_assoc}
use lib.ListN.{length, get_or, take, drop, replicate, length-append, length-replicate}
use lib.Seq.{take_at, drop_at, take-append_seam, take_all, take-take, drop-drop, paste}
use borrow.Author.Tests.{ne_eqb}
use Rattle.labels.specs.Bytes.{run}
use Rattle.labels.specs.Labels.{padded}
use Rattle.trees.specs.Lists.{pieces}
use Rattle.trees.proofs.EqualPieces.{piece_at}
use Rattle.roster.specs.Table.{packed, table, slots, slot, non_zero}
use Rattle.roster.proofs.Each.{Each, each_at, each_still}
use Rattle.roster.proofs.Padding.{Fitting, Bare, padded-length}

-- short enough for sixteen bytes
abbrev pub Short : List ℕ → Type 0
Short w = length w ≤ 16

packed-length : (ns : List (List ℕ)) → Each Short ns → length (packed ns) ≡ 16 * length ns
unfolding packed Each
packed-length [] all = refl
packed-length (w ∷ ns) all =
    let front = padded-length w all.0 in
    let rest = packed-length ns all.1 in
    rw length-append (omega arith)

packed_append : (ns ms : List (List ℕ)) → packed (ns ++ ms) ≡ packed ns ++ packed ms
unfolding packed
packed_append [] ms = refl
packed_append (w ∷ ns) ms = rw (packed_append ns ms) (sym (append_assoc (padded w) (packed ns) (packed ms)))

slots-packed : (ns : List (List ℕ)) (rest : List ℕ) → Each Short ns → slots (length ns) (packed ns ++ rest) ≡ map padded ns
unfolding pieces packed Each
slots-packed [] rest all = refl
slots-packed (w ∷ ns) rest all =
    let front = padded-length w all.0 in
    rw (
      append_assoc (padded w) (packed ns) rest,
      take_at (padded w) (packed ns ++ rest) 16 front,
      drop_at (padded w) (packed ns ++ rest) 16 front,
      slots-packed ns rest all.1,
    )

-- the first sixteens of a table are its names, padded
pub slots-table : (ns : List (List ℕ)) → Each Short ns → slots (length ns) (table ns) ≡ map padded ns
unfolding table
slots-table ns all = slots-packed ns (replicate (512 - length (packed ns)) 0) all

pub table_none : replicate 512 0 ≡ table []
unfolding table packed
table_none = refl

pub table-length : (ns : List (List ℕ)) → length ns ≤ 32 → Each Short ns → length (table ns) ≡ 512
unfolding table
table-length ns few all =
    let e = packed-length ns all in
    rw (length-append, length-replicate) (omega arith)

drop-replicate : (k n : ℕ) → drop {A = ℕ} k (replicate n 0) ≡ replicate (n - k) 0
drop-replicate zero n = rw (sub-zero n)
drop-replicate (suc k) zero = rw (zero-sub (suc k))
drop-replicate (suc k) (suc n) = rw (suc-sub-suc n k) (drop-replicate k n)

-- a name entered behind the last
pub table_more : (ns : List (List ℕ)) (w : List ℕ) → length ns < 32 → Each Short ns → Short w → paste (table ns) (16 * length ns) (padded w) 16 ≡ table (ns ++ (w ∷ []))
unfolding table packed
table_more ns w few all short =
    let m = packed-length ns all in
    let zeros : List ℕ = replicate (512 - length (packed ns)) 0 in
    let whole : packed (ns ++ (w ∷ [])) ≡ packed ns ++ padded w = packed_append ns (w ∷ []) ∙ ap (λ (l : List ℕ). packed ns ++ l) (append-nil (padded w)) in
    let long : length (packed ns ++ padded w) ≡ 16 * length ns + 16 = rw (length-append, padded-length w short, m) in
    let left : 512 - length (packed ns) - 16 ≡ 512 - (16 * length ns + 16) = omega arith in
    let front = take_at (packed ns) zeros (16 * length ns) m in
    let middle = take_all 16 (padded w) (omega (arith, padded-length w short)) in
    let back : drop (16 * length ns + 16) (packed ns ++ zeros) ≡ replicate (512 - (16 * length ns + 16)) 0 =
    sym (drop-drop 16 (16 * length ns) (packed ns ++ zeros)) ∙ ap (drop 16) (drop_at (packed ns) zeros (16 * length ns) m)
    ∙ drop-replicate 16 (512 - length (packed ns)) ∙ ap (λ (k : ℕ). replicate k 0) left in
    ap (λ (l : List ℕ). l ++ take 16 (padded w) ++ drop (16 * length ns + 16) (packed ns ++ zeros)) front
    ∙ ap₂ (λ (l k : List ℕ). packed ns ++ l ++ k) middle back
    ∙ sym (ap (λ (l : List ℕ). l ++ replicate (512 - length l) 0) whole ∙ ap (λ (k : ℕ). packed ns ++ padded w ++ replicate (512 - k) 0) long)

map_at : (ns : List (List ℕ)) (i : ℕ) → i < length ns → get_or (map padded ns) i [] ≡ padded (get_or ns i [])
map_at [] i h = absurd (not-suc-le-zero h)
map_at (w ∷ ns) zero h = refl
map_at (w ∷ ns) (suc i) h = map_at ns i (le_of_suc-le-suc h)

-- the i-th sixteen of a table is its i-th name, padded
pub table-slot : (ns : List (List ℕ)) (i : ℕ) → i < length ns → Each Short ns → slot (table ns) i ≡ padded (get_or ns i [])
table-slot ns i h all = sym (piece_at 16 (length ns) i (table ns) h) ∙ ap (λ (l : List (List ℕ)). get_or l i []) (slots-table ns all) ∙ map_at ns i h

-- how long a padded name is, up to its first 0
letters : (w : List ℕ) (n : ℕ) → Bare w → run non_zero (w ++ replicate n 0) ≡ length w
unfolding run
letters [] zero b = refl
letters [] (suc n) b = refl
letters (x ∷ w) n b = rw (ne_eqb x 0 (b 0 (suc-le-suc zero-le)), letters w n (λ k h. b (suc k) (suc-le-suc h)))

-- the length of the i-th name, as it is read off the table
pub table-name-length : (ns : List (List ℕ)) (i : ℕ) → i < length ns → Each Fitting ns → run non_zero (take 16 (drop (16 * i) (table ns))) ≡ length (get_or ns i [])
unfolding padded
table-name-length ns i h all =
    let w = get_or ns i [] in
    ap (run non_zero) (table-slot ns i h (each_still Fitting Short (λ v f. f.short) ns all))
    ∙ letters w (16 - length w) (each_at Fitting ns i all h).bare

-- and its bytes
pub table-name-bytes : (ns : List (List ℕ)) (i : ℕ) → i < length ns → Each Fitting ns → take (length (get_or ns i [])) (drop (16 * i) (table ns)) ≡ get_or ns i []
unfolding padded
table-name-bytes ns i h all =
    let w = get_or ns i [] in
    let f = each_at Fitting ns i all h in
    sym (take-take (length w) 16 (drop (16 * i) (table ns)) f.short)
    ∙ ap (take (length w)) (table-slot ns i h (each_still Fitting Short (λ v f. f.short) ns all))
    ∙ take-append_seam w (replicate (16 - length w) 0)
