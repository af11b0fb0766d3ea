-- The text of a whole record from the roster's table, with the notes that counts give: what its parts need, how long it is, and the stores that write it.
use Prim.Native.Nat.{ℕ, ◌+◌, ◌*◌, ◌≤◌, ◌<◌}
use mathlib.Core.Path.{◌≡◌, refl, sym, ap, subst, ◌∙◌}
use mathlib.Core.Bool.{Bool}
use mathlib.Core.List.{List, [], ◌∷◌, ◌++◌}
use native.Mathlib.Omega.{arith}
use Rattle.std.specs.Prelude.{Option, None}
use lib.ListN.{length, drop, set, length-append}
use lib.Seq.{sets}
use Rattle.clusters.specs.Sets.{size}
use Rattle.clusters.proofs.Members.{has-below}
use Rattle.trees.specs.Lists.{Among}
use Rattle.trees.specs.Records.{count, listed, largest, GeneValid}
use Rattle.trees.specs.Drawn.{drawn}
use Rattle.trees.specs.Decides.{Decides}
use Rattle.trees.specs.Valid.{valid_gene}
use Rattle.trees.proofs.ValidTest.{reply_is_test}
use Rattle.trees.proofs.GeneRecords.{gene-small, gene_decides}
use Rattle.trees.proofs.Nodes.{leaf-has}
use Rattle.trees.proofs.Children.{hierarchy_of_valid}
use Rattle.trees.proofs.Drawing.{drawn-draws}
use Rattle.trees.proofs.Bounds.{species-le-count}
use Rattle.roster.specs.Roster.{names}
use Rattle.roster.specs.Table.{table}
use Rattle.roster.specs.Judged.{species_most}
use Rattle.roster.specs.declared.Reply.{Reply}
use Rattle.roster.proofs.Each.{each_still}
use Rattle.roster.proofs.Padding.{Fitting}
use Rattle.roster.proofs.Tables.{Short, table-length}
use Rattle.roster.proofs.Names.{names-fit}
use Rattle.texts.specs.Writing.{note, written_with, written}
use Rattle.printing.specs.Work.{Put}
use Rattle.printing.proofs.Printing.{put-length}
use Rattle.texts.specs.Work.{names_in, labels_in, cluster_text, Listed, Notes, note_in, notes_to}
use Rattle.texts.proofs.Lengths.{text-length_with, noted-bound, text_most_lem}
use Rattle.texts.proofs.NoteSums.{listed_notes}
use Rattle.texts.proofs.Noted.{notes_in, notes_agree, notes_short, node_agrees}
use Rattle.texts.proofs.TableNames.{names_at}
use Rattle.writer.specs.Work.{Given, Puts, PutsTree}
use Rattle.writer.proofs.RosterNames.{GoodNames, good-names, table-name, table-names}
use Rattle.trees.proofs.Stores.{sets-front, set-behind}

module _ {line : List ℕ} {n : ℕ} {tb : List ℕ} (g : Given line n tb) where
  named : GoodNames (names line)
  named = good-names line g.good

  pub given_few : n ≤ 16
  given_few = let f = named.few in let c = g.counted in omega arith

  pub given-table : length tb ≡ 512
  given-table =
      ap length g.tabled
      ∙ table-length (names line) (let f = named.few in omega arith) (each_still Fitting Short (λ w f. f.short) (names line) (names-fit species_most line g.good))

  -- a reply that decides whether the record is valid is the test
  pub given-test : (b : Bool) (r : List ℕ) → Decides b (GeneValid n r) → b ≡ valid_gene (length (names line)) r
  given-test b r d = reply_is_test b (gene_decides r given_few) d ∙ ap (λ (k : ℕ). valid_gene k r) g.counted

  -- what is put without counts is the text without notes
  pub given-plain : {r out : List ℕ} {p : Reply} {after : List ℕ} → PutsTree n tb r None out p after → Puts (written (names line) r) out p after
  unfolding written
  given-plain p = p.puts line note g (record { each = λ i one most. refl })

  module _ {r : List ℕ} (v : GeneValid n r) where
    given-valid : GeneValid (length (names line)) r
    given-valid = subst (λ (k : ℕ). GeneValid k r) g.counted v

    -- the largest cluster stands at the count
    pub given-count : count r ≤ 31
    given-count = v.valid.form.counted

    module _ {all : ℕ} (is : all ≡ largest r) where
      pub given-listed : Listed r all
      given-listed = record {
        all = largest r;
        sixteen = gene-small given_few v;
        valid = v.valid;
        among = subst (λ (a : ℕ). Among a (listed r)) (sym is) v.valid.all;
      }

      -- what judging the length needs
      pub given-counts : ((n ≤ 16) × (16 * n ≤ length tb)) × ((size all ≤ 2 * count r) × (count r ≤ 31))
      given-counts =
          let l = given-table in
          let f = given_few in
          let m = species-le-count v.valid (gene-small given_few v) in
          let s = ap size is in
          ((f, omega arith), (omega arith, given-count))

      module _ {counts : Option (List ℕ)} (notes : ℕ → List ℕ) (noted : Notes counts r notes) where
        -- the text
        abbrev whole : List ℕ
        whole = written_with notes (names line) r

        -- the length is judged by the law
        pub given-length : (k j : ℕ) → k + size all ≡ labels_in (names_in n tb) all n + 2 * count r → j ≡ notes_to counts (count r) → k + j ≡ length whole
        given-length k j e d =
            let t = text-length_with (names line) named.few given-valid notes in
            let l = listed_notes v.valid.form noted in
            let s = ap size is in
            let same : labels_in (names_in n tb) all n ≡ labels_in (names line) (largest r) (length (names line)) =
            rw (is, g.tabled, g.counted, table-names (names line) (names-fit species_most line g.good))
            in
            omega arith

        -- it is no large number
        pub given-short : length whole ≤ 1209
        given-short =
            let b = noted-bound (names line) named.few given-valid notes 21 (notes_short v.valid.form noted) in
            let t = text_most_lem (names line) named.few given-valid named.each in
            let c = given-count in
            omega arith

        -- the node of the largest cluster and `;` are the text
        pub given-text : cluster_text counts tb r all ++ 59 ∷ [] ≡ whole
        unfolding cluster_text written_with
        given-text =
            let ns = names line in
            let t = drawn (listed r) (largest r) in
            let d = drawn-draws (hierarchy_of_valid v.valid (gene-small given_few v)) v.valid.all in
            rw (is, g.tabled)
            (ap (λ (s : List ℕ). s ++ 59 ∷ [])
            (node_agrees (note_in counts r) notes (names_in 32 (table ns)) ns t
            (λ i h.
            let b = has-below (length ns) given-valid.of_roster.1 (rw d.on.all at (leaf-has t i h)) in
            let f = named.few in
            names_at 32 (table ns) i (omega arith) ∙ table-name ns (names-fit species_most line g.good) i b)
            (λ a m. notes_agree v.valid.form (notes_in counts v.valid.form) noted a (d.fewer a m))))

        given-text-length : length (cluster_text counts tb r all) + 1 ≡ length whole
        given-text-length = let e = ap length given-text in let l = length-append (cluster_text counts tb r all) (59 ∷ []) in omega arith

        module _ (out : List ℕ) (room : length whole ≤ length out) where
          -- the node has room
          pub given-room : 0 + length (cluster_text counts tb r all) ≤ length out
          given-room = let e = given-text-length in omega arith

          module _ {end : ℕ} {after : List ℕ} (p : Put out 0 (cluster_text counts tb r all) end after) where
            -- `;` has room behind it
            pub end_room : end < length after
            end_room =
                let e = given-text-length in
                let d = p.ended in
                let l = put-length p in
                omega arith

            -- and with it the text stands in front of what was behind it
            pub given-stored : set after end 59 ≡ whole ++ drop (length whole) out
            given-stored =
                rw (p.stored, p.ended)
                (set-behind out 0 59 (cluster_text counts tb r all) ∙ ap (λ (t : List ℕ). sets out 0 t) given-text ∙ sets-front out whole room)
