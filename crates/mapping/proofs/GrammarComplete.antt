-- Complete: a mapping that the grammar derives, with each individual once and all of them, has no fault, and its sets are those of the derivation.
use Prim.Native.Nat.{ℕ, zero, suc, ◌+◌, ◌≤◌, ◌<◌}
use native.Mathlib.Nat.{add-zero}
use native.Mathlib.Omega.{arith}
use mathlib.Core.Path.{◌≡◌, refl, sym, ap, ◌∙◌}
use mathlib.Core.Logic.{◌⊎◌, inl, inr}
use mathlib.Core.Bool.{false}
use mathlib.Core.List.Memᴰ
use mathlib.Core.List.Memᴰ.{head as here}
use mathlib.Core.List.{List, [], ◌∷◌, ◌++◌, map, flatten, append_assoc, append-nil, Memᴰ}
use lib.ListN.{length, get_or, drop, length-drop, length-map, get_or-map}
use lib.Seq.{drop-cons, ext_get_or}
use Rattle.clusters.specs.Sets.{whole, single, union}
use Rattle.trees.specs.Lists.{Among, NoneTwice, up_to}
use Rattle.trees.specs.Valid.{among}
use Rattle.trees.proofs.Booleans.{unless}
use Rattle.trees.proofs.Listing.{none_twice_left, none_twice_parts}
use Rattle.trees.proofs.UpTo.{length-map-up_to, map-up_to}
use Rattle.trees.proofs.ValidTest.{tells_among}
use Rattle.roster.specs.Roster.{name_at, position}
use Rattle.roster.proofs.Positions.{Distinct}
use Rattle.mapping.specs.Mapping.{who_at, named, named_in, faulty}
use Rattle.mapping.specs.Groups.{set_of, groups, Parted}
use Rattle.mapping.specs.Grammar.{Items, Lines, Maps}
use Rattle.mapping.specs.Grammar.Items.{last, more}
use Rattle.mapping.specs.Grammar.Lines.{none, line as a_line}
use Rattle.mapping.specs.Work.{Heading, Listing, Met, Listed}
use Rattle.mapping.proofs.Naming.{named_none, in_over}
use Rattle.mapping.proofs.IndividualSets.{set_none, set_whole, lists-part}
use Rattle.mapping.proofs.LabelRules.{ThenAt, then_at}
use Rattle.mapping.proofs.Walks.{heading_first, head-listing, head-named, list_more, list_ends, named_next, in_next, ends_good, named-known}

module _ (species individuals : List (List ℕ)) (text : List ℕ) (apart-species : Distinct species) (apart-individuals : Distinct individuals) where
  -- ---- the individuals of a line

  -- a line was read up to `end`, and these are its individuals
  record ItemsRead (line at taken : ℕ) (js rest : List ℕ) : Type 0 where
    end : ℕ
    onwards : at < end
    left : drop end text ≡ rest
    set : ℕ
    listed : Listed species individuals text line end taken set
    all_named : named individuals text end ≡ named individuals text at ++ js
    in_line : named_in individuals text line end ≡ named_in individuals text line at ++ js

  -- one individual more in front
  item_on : (line at next taken j : ℕ) (js rest : List ℕ) → at < next → named individuals text next ≡ named individuals text at ++ (j ∷ [])
      → named_in individuals text line next ≡ named_in individuals text line at ++ (j ∷ []) → ItemsRead line next taken js rest → ItemsRead line at taken (j ∷ js) rest
  item_on line at next taken j js rest onwards all inside r =
      let on = r.onwards in
      record {
        end = r.end;
        onwards = omega arith;
        left = r.left;
        set = r.set;
        listed = r.listed;
        all_named = r.all_named ∙ ap (λ (k : List ℕ). k ++ js) all ∙ append_assoc (named individuals text at) (j ∷ []) js;
        in_line = r.in_line ∙ ap (λ (k : List ℕ). k ++ js) inside ∙ append_assoc (named_in individuals text line at) (j ∷ []) js;
      }

  -- one individual's label by the rules
  module _ (line at taken group j b : ℕ) (js rest : List ℕ) (l : Listing species individuals text line at taken group)
      (once : NoneTwice (named individuals text at ++ (j ∷ js))) (known : j < length individuals) (t : ThenAt text at (get_or individuals j []) b rest) where
    who_is : who_at individuals text at ≡ j
    who_is = ap (λ (w : List ℕ). position w individuals) t.name ∙ apart-individuals j known

    met : Met individuals text at t.next (single j)
    met =
        record {
          label = t.ends.label;
          n = t.ends.n;
          says = t.ends.says;
          place = t.ends.place;
          here = t.here;
          known = rw who_is known;
          new = unless (among (who_at individuals text at) (named individuals text at)) (λ e.
              none_twice_parts (named individuals text at) (j ∷ js) once j
              (rw who_is at ((tells_among (who_at individuals text at) (named individuals text at)).holds e)) (here refl));
          alone = ap single (sym who_is);
        }

    onwards_next : at < t.next + 1
    onwards_next = let p = t.ends.place in omega arith

    named-then : named individuals text (t.next + 1) ≡ named individuals text at ++ (j ∷ [])
    named-then = named_next species individuals text line at taken group l t.next (single j) met ∙ ap (λ (i : ℕ). named individuals text at ++ (i ∷ [])) who_is

    in_then : named_in individuals text line (t.next + 1) ≡ named_in individuals text line at ++ (j ∷ [])
    in_then = in_next species individuals text line at taken group l t.next (single j) met ∙ ap (λ (i : ℕ). named_in individuals text line at ++ (i ∷ [])) who_is

    item_last : b ≡ 10 → ItemsRead line at taken (j ∷ []) rest
    item_last feed =
        record {
          end = t.next + 1;
          onwards = onwards_next;
          left = t.left;
          set = union group (single j);
          listed = list_ends species individuals text line at taken group l t.next (single j) met (t.byte ∙ feed);
          all_named = named-then;
          in_line = in_then;
        }

    item_listing : b ≡ 44 → Listing species individuals text line (t.next + 1) taken (union group (single j))
    item_listing comma = list_more species individuals text line at taken group l t.next (single j) met (t.byte ∙ comma)

    item_more : (behind : List ℕ) → ItemsRead line (t.next + 1) taken js behind → ItemsRead line at taken (j ∷ js) behind
    item_more behind = item_on line at (t.next + 1) taken j js behind onwards_next named-then in_then

    once_more : NoneTwice (named individuals text (t.next + 1) ++ js)
    once_more = rw (named-then, append_assoc (named individuals text at) (j ∷ []) js) once

  items_read : (line at taken group : ℕ) {js s rest : List ℕ} → Items individuals js s rest → drop at text ≡ s → Listing species individuals text line at taken group
      → NoneTwice (named individuals text at ++ js) → ItemsRead line at taken js rest
  items_read line at taken group (last {j = j} {rest = rest} known lt) is l once =
      item_last line at taken group j 10 [] rest l once known (then_at text at (get_or individuals j []) 10 rest refl (rw (← is) at lt)) refl
  items_read line at taken group (more {j = j} {js = js} {t = u} {rest = rest} known lt items) is l once =
      go (then_at text at (get_or individuals j []) 44 u refl (rw (← is) at lt)) (λ next g e k o. items_read line next taken g items e k o)
    where
      go : ThenAt text at (get_or individuals j []) 44 u
          → ((next g : ℕ) → drop next text ≡ u → Listing species individuals text line next taken g → NoneTwice (named individuals text next ++ js) → ItemsRead line next taken js rest)
          → ItemsRead line at taken (j ∷ js) rest
      go t later =
          item_more line at taken group j 44 js u l once known t rest
          (later (t.next + 1) (union group (single j)) t.left (item_listing line at taken group j 44 js u l once known t refl) (once_more line at taken group j 44 js u l once known t))

  -- ---- the lines

  -- all lines were read, up to the end of the text
  record LinesRead (line at : ℕ) (whose : List (List ℕ)) : Type 0 where
    end : ℕ
    onwards : at ≤ end
    over : end ≡ length text
    taken : ℕ
    heading : Heading species individuals text (length species) end taken
    all_named : named individuals text end ≡ named individuals text at ++ flatten whose
    each_line : (k : ℕ) → k < length whose → named_in individuals text (line + k) end ≡ get_or whose k []

  at_end : (at : ℕ) → at ≤ length text → drop at text ≡ [] → at ≡ length text
  at_end at h e = let l = length-drop at text in let m = ap (length {A = ℕ}) e in omega arith

  -- one line more in front
  line_on : (line at next taken : ℕ) (js : List ℕ) (whose : List (List ℕ)) (rest : List ℕ) → at ≤ next → named individuals text next ≡ named individuals text at
      → named_in individuals text line next ≡ [] → (i : ItemsRead line next taken js rest) → LinesRead (suc line) i.end whose → LinesRead line at (js ∷ whose)
  unfolding flatten
  line_on line at next taken js whose rest onwards same none_in i r =
      let on = i.onwards in
      let off = r.onwards in
      let c = i.listed.heading.begun.counted in
      record {
        end = r.end;
        onwards = omega arith;
        over = r.over;
        taken = r.taken;
        heading = r.heading;
        all_named = r.all_named ∙ ap (λ (k : List ℕ). k ++ flatten whose) (i.all_named ∙ ap (λ (k : List ℕ). k ++ js) same)
            ∙ append_assoc (named individuals text at) js (flatten whose);
        each_line = each (in_over individuals text line i.end r.end off (omega arith) ∙ i.in_line ∙ ap (λ (m : List ℕ). m ++ js) none_in);
      }
    where
      each : named_in individuals text line r.end ≡ js → (k : ℕ) → k < suc (length whose) → named_in individuals text (line + k) r.end ≡ get_or (js ∷ whose) k []
      each first zero l = ap (λ (i : ℕ). named_in individuals text i r.end) (add-zero line) ∙ first
      each first (suc k) l =
          let e : line + suc k ≡ suc line + k = omega arith in ap (λ (i : ℕ). named_in individuals text i r.end) e ∙ r.each_line k (omega arith)

  lines-read : (line at taken : ℕ) {left whose : List (List ℕ)} {s : List ℕ} → Lines individuals left whose s → drop at text ≡ s → drop line species ≡ left → line + length left ≡ length species
      → Heading species individuals text line at taken → NoneTwice (named individuals text at ++ flatten whose) → LinesRead line at whose
  unfolding flatten
  lines-read line at taken none is left counts h once =
      let e : line ≡ length species = omega arith in
      record {
        end = at;
        onwards = omega arith;
        over = at_end at h.begun.within is;
        taken = taken;
        heading = rw e at h;
        all_named = sym (append-nil (named individuals text at));
        each_line = λ k l. absurd (omega arith);
      }
  lines-read line at taken (a_line {w = w} {species = others} {js = js} {whose = whose} {t = u} {rest = rest} lt items lines) is left counts h once =
      go (then_at text at w 58 u refl (rw (← is) at lt)) (λ next taken' e f c k o. lines-read (suc line) next taken' lines e f c k o)
    where
      few : line < length species
      few = omega arith

      -- the line's species, and those behind it
      front : get_or species line [] ≡ w
      front = let c = drop-cons species line [] few in cc

      behind : drop (suc line) species ≡ others
      behind = let c = drop-cons species line [] few in cc

      go : ThenAt text at w 58 u
          → ((next taken' : ℕ) → drop next text ≡ rest → drop (suc line) species ≡ others → suc line + length others ≡ length species
          → Heading species individuals text (suc line) next taken' → NoneTwice (named individuals text next ++ flatten whose) → LinesRead (suc line) next whose)
          → LinesRead line at (js ∷ whose)
      go t later =
          let right : position (name_at text at) species ≡ line = ap (λ (v : List ℕ). position v species) (t.name ∙ sym front) ∙ apart-species line few in
          let same = head-named species individuals text line at taken h few t.next _ t.ends right in
          let p = t.ends.place in
          let once-here : NoneTwice (named individuals text (t.next + 1) ++ js ++ flatten whose) =
          rw (same.0, append_assoc (named individuals text at) js (flatten whose)) once in
          on (t.next + 1) (omega arith) same.0 same.1 once-here
          (items_read line (t.next + 1) taken 0 items t.left (head-listing species individuals text line at taken h few t.next _ t.ends right t.here t.byte)
          (none_twice_left (named individuals text (t.next + 1) ++ js) (flatten whose) once-here))
        where
          on : (next : ℕ) → at ≤ next → named individuals text next ≡ named individuals text at → named_in individuals text line next ≡ []
              → NoneTwice (named individuals text next ++ js ++ flatten whose) → ItemsRead line next taken js rest → LinesRead line at (js ∷ whose)
          on next onwards same none_in once i =
              line_on line at next taken js whose rest onwards same none_in i
              (later i.end (union taken i.set) i.left behind (omega arith) i.listed.heading (rw i.all_named once))

  -- ---- the mapping

  lines-length : {left whose : List (List ℕ)} {s : List ℕ} → Lines individuals left whose s → length whose ≡ length left
  lines-length none = refl
  lines-length (a_line lt items lines) = ap suc (lines-length lines)

  -- each line has an individual
  items_some : {js s rest : List ℕ} → Items individuals js s rest → 1 ≤ length js
  items_some (last known lt) = omega arith
  items_some (more known lt items) = omega arith

  lines_some : {left whose : List (List ℕ)} {s : List ℕ} → Lines individuals left whose s → (l : List ℕ) → Memᴰ l whose → 1 ≤ length l
  lines_some none l m = absurd (Memᴰ.not-nil m)
  lines_some (a_line {js = js} {whose = whose} lt items lines) l m = by (Memᴰ.cases_cons m) (λ k. lines_some lines l k)
    where
      by : (l ≡ js) ⊎ Memᴰ l whose → (Memᴰ l whose → 1 ≤ length l) → 1 ≤ length l
      by (inl e) later = rw e (items_some items)
      by (inr k) later = later k

  module _ (d : Maps species individuals text) where
    read : LinesRead 0 0 d.whose
    read = lines-read 0 0 0 d.derived refl refl (omega arith) (heading_first species individuals text) (rw (named_none individuals text) d.once)

    all_are : named individuals text read.end ≡ flatten d.whose
    all_are = read.all_named ∙ ap (λ (k : List ℕ). k ++ flatten d.whose) (named_none individuals text)

    full : read.taken ≡ whole (length individuals)
    full =
        read.heading.all
        ∙ set_whole (length individuals) (named individuals text read.end) (named-known species individuals text (length species) read.end read.heading.begun)
        (λ j h. rw all_are (d.all j h))

    -- it has no fault
    pub derived-good : faulty species individuals text ≡ false
    derived-good = ends_good species individuals text read.end read.taken read.heading read.over full

    -- its sets are those of the derivation
    pub derived-groups : groups species individuals text ≡ map set_of d.whose
    unfolding groups
    derived-groups =
        let n = lines-length d.derived in
        let a = length-map-up_to (λ i. set_of (named_in individuals text i (length text))) (length species) in
        let b = length-map d.whose set_of in
        ext_get_or 0 (map (λ i. set_of (named_in individuals text i (length text))) (up_to (length species))) (map set_of d.whose) (a ∙ sym (b ∙ n)) (λ k h.
        map-up_to (λ i. set_of (named_in individuals text i (length text))) (length species) k (omega arith)
        ∙ ap set_of (ap (named_in individuals text k) (sym read.over) ∙ ap (λ (i : ℕ). named_in individuals text i read.end) (zero_plus k) ∙ read.each_line k (omega arith))
        ∙ sym (get_or-map set_of d.whose k []) ∙ ap (get_or (map set_of d.whose) k) set_none)
      where
        zero_plus : (k : ℕ) → k ≡ 0 + k
        zero_plus k = omega arith

    each-known : (j : ℕ) → Among j (flatten d.whose) → j < length individuals
    each-known j h = named-known species individuals text (length species) read.end read.heading.begun j (rw all_are h)

    -- they part the individuals
    pub derived-parted : Parted (length individuals) (groups species individuals text)
    derived-parted = rw derived-groups (lists-part (length individuals) d.whose d.once d.all each-known (lines_some d.derived))
