-- Sound: the grammar derives a mapping that has no fault, with each individual once and all of them.
use Prim.Native.Nat.{ℕ, zero, suc, ◌+◌, ◌≤◌, ◌<◌}
use native.Mathlib.Decide.{dec_lt, ℕ_discrete}
use native.Mathlib.Omega.{arith}
use mathlib.Core.Path.{◌≡◌, refl, sym, ap, ◌∙◌}
use mathlib.Core.Bool.{Bool, true, false}
use mathlib.Core.List.Memᴰ
use mathlib.Core.List.{List, [], ◌∷◌, ◌++◌, flatten, append_assoc, append-nil}
use lib.ListN.{length, get_or, drop, drop_of_length-le}
use lib.Seq.{drop-cons}
use Rattle.clusters.specs.Sets.{single, union, apart}
use Rattle.labels.specs.Bytes.{is_label}
use Rattle.labels.specs.Labels.{Told, told, padded}
use Rattle.labels.specs.Labels.Told.{ended, faulty as at_fault}
use Rattle.trees.specs.Lists.{NoneTwice}
use Rattle.trees.specs.Valid.{among}
use Rattle.trees.proofs.Booleans.{never_both}
use Rattle.trees.proofs.Listing.{none_twice_append, none_twice_one}
use Rattle.trees.proofs.ValidTest.{tells_among}
use Rattle.roster.specs.Roster.{byte_at, name_at, position}
use Rattle.roster.proofs.Positions.{position-found}
use Rattle.mapping.specs.Mapping.{who_at, named, fault_at, faulty}
use Rattle.mapping.specs.Grammar.{LabelThen, Items, Lines, Maps}
use Rattle.mapping.specs.Grammar.Items.{last, more}
use Rattle.mapping.specs.Grammar.Lines.{none, line as a_line}
use Rattle.mapping.specs.Work.{FirstAt, Begun, LabelEnds, Heading, Listing, Met, Listed}
use Rattle.mapping.proofs.Naming.{named_none}
use Rattle.mapping.proofs.FaultKinds.{no_fault_lem, clean_left_out}
use Rattle.mapping.proofs.LabelSteps.{ended-within}
use Rattle.mapping.proofs.Outcomes.{ends_early, no_label, broken-label}
use Rattle.mapping.proofs.LabelRules.{at_then}
use Rattle.mapping.proofs.Walks.{heading_first, wrong-species, head_open, head-stray, head-listing, head-named, unknown_member, member_again, member_new, member_open, list-stray, list_more}
use Rattle.mapping.proofs.Walks.{list_ends, named_next, stands-beyond, none_missing}

module _ (species individuals : List (List ℕ)) (text : List ℕ) (good : faulty species individuals text ≡ false) where
  never : (p : ℕ) → FirstAt species individuals text p → ⊥
  never p f = never_both (fault_at species individuals text p) f.here (no_fault_lem species individuals text good p f.within)

  -- ---- a label

  -- a label stands where one has to begin, and ends
  record Stands (at : ℕ) : Type 0 where
    inside : at < length text
    next : ℕ
    ends : LabelEnds text at next (padded (name_at text at))
    within : next ≤ length text

  stands : (line at : ℕ) → Begun species individuals text line at → line < length species → Stands at
  stands line at b few = inside (dec_lt at (length text))
    where
      ends : (t : Told) → told (drop at text) ≡ t → at < length text → is_label (byte_at text at) ≡ true → Stands at
      ends (ended n) says here label =
          record {
            inside = here;
            next = at + n;
            ends = record { label = label; n = n; says = says; place = refl; called = refl };
            within = (ended-within text at (record { fresh = b.fresh; label = label }) n says).1;
          }
      ends (at_fault fault d) says here label = absurd (never _ (broken-label species individuals text line at b few label fault d says))

      labelled : (t : Bool) → is_label (byte_at text at) ≡ t → at < length text → Stands at
      labelled true label here = ends (told (drop at text)) refl here label
      labelled false label here = absurd (never at (no_label species individuals text line at b few here label))

      inside : Dec (at < length text) → Stands at
      inside (yes here) = labelled (is_label (byte_at text at)) refl here
      inside (no n) = let w = b.within in absurd (never at (ends_early species individuals text line at b few (omega arith)))

  -- ---- the head of a line

  record Headed (line at taken : ℕ) : Type 0 where
    next : ℕ
    derived : LabelThen (get_or species line []) 58 (drop at text) (drop next text)
    listing : Listing species individuals text line next taken 0
    same : named individuals text next ≡ named individuals text at

  headed : (line at taken : ℕ) → Heading species individuals text line at taken → line < length species → Headed line at taken
  headed line at taken h few = go (stands line at h.begun few)
    where
      go : Stands at → Headed line at taken
      go s = named_right (ℕ_discrete (position (name_at text at) species) line)
        where
          colon : position (name_at text at) species ≡ line → s.next < length text → Dec (byte_at text s.next ≡ 58) → Headed line at taken
          colon right here (yes b) =
              let w : get_or species line [] ≡ name_at text at =
              ap (λ (i : ℕ). get_or species i []) (sym right) ∙ position-found (name_at text at) species (rw right few) in
              record {
                next = s.next + 1;
                derived = rw (w, ← b) (at_then text at s.next (padded (name_at text at)) s.ends s.inside here);
                listing = head-listing species individuals text line at taken h few s.next (padded (name_at text at)) s.ends right here b;
                same = (head-named species individuals text line at taken h few s.next (padded (name_at text at)) s.ends right).0;
              }
          colon right here (no n) =
              absurd (never s.next (head-stray species individuals text line at taken h few s.next (padded (name_at text at)) s.ends right here n))

          more_text : position (name_at text at) species ≡ line → Dec (s.next < length text) → Headed line at taken
          more_text right (yes here) = colon right here (ℕ_discrete (byte_at text s.next) 58)
          more_text right (no n) =
              let w = s.within in
              absurd (never s.next (head_open species individuals text line at taken h few s.next (padded (name_at text at)) s.ends right (omega arith)))

          named_right : Dec (position (name_at text at) species ≡ line) → Headed line at taken
          named_right (yes right) = more_text right (dec_lt s.next (length text))
          named_right (no n) = absurd (never at (wrong-species species individuals text line at taken h few s.next (padded (name_at text at)) s.ends n))

  -- ---- the individuals of a line

  -- an individual that does not stand before, by the rules
  record Noted (at : ℕ) : Type 0 where
    next : ℕ
    who : ℕ
    is : who_at individuals text at ≡ who
    met : Met individuals text at next (single who)
    derived : LabelThen (get_or individuals who []) (byte_at text next) (drop at text) (drop (next + 1) text)

  noted : (line at taken group : ℕ) → Listing species individuals text line at taken group → Noted at
  noted line at taken group l = go (stands line at l.begun l.few)
    where
      go : Stands at → Noted at
      go s = known (dec_lt (who_at individuals text at) (length individuals))
        where
          more_text : who_at individuals text at < length individuals → among (who_at individuals text at) (named individuals text at) ≡ false → Dec (s.next < length text) → Noted at
          more_text k new (yes here) =
              record {
                next = s.next;
                who = who_at individuals text at;
                is = refl;
                met = record {
                  label = s.ends.label;
                  n = s.ends.n;
                  says = s.ends.says;
                  place = s.ends.place;
                  here = here;
                  known = k;
                  new = new;
                  alone = refl;
                };
                derived = rw (position-found (name_at text at) individuals k) (at_then text at s.next (padded (name_at text at)) s.ends s.inside here);
              }
          more_text k new (no n) =
              let w = s.within in
              let p = s.ends.place in
              absurd (never (at + s.ends.n) (member_open species individuals text line at taken group l s.ends.label s.ends.n s.ends.says k new (omega arith)))

          fresh : who_at individuals text at < length individuals → (t : Bool) → apart (single (who_at individuals text at)) (union taken group) ≡ t → Noted at
          fresh k true e = more_text k (member_new species individuals text line at taken group l s.ends.label s.ends.n s.ends.says e) (dec_lt s.next (length text))
          fresh k false e = absurd (never at (member_again species individuals text line at taken group l s.ends.label s.ends.n s.ends.says e))

          known : Dec (who_at individuals text at < length individuals) → Noted at
          known (yes k) = fresh k (apart (single (who_at individuals text at)) (union taken group)) refl
          known (no n) = absurd (never at (unknown_member species individuals text line at taken group l s.ends.label s.ends.n s.ends.says (omega arith)))

  -- a line's individuals, by the rules
  record Itemized (line at taken : ℕ) : Type 0 where
    js : List ℕ
    end : ℕ
    onwards : at < end
    derived : Items individuals js (drop at text) (drop end text)
    set : ℕ
    listed : Listed species individuals text line end taken set
    all_named : named individuals text end ≡ named individuals text at ++ js
    once : NoneTwice (named individuals text at) → NoneTwice (named individuals text end)

  -- one more leaves no individual twice
  once_more : (at : ℕ) (n : Noted at) → NoneTwice (named individuals text at) → NoneTwice (named individuals text at ++ (n.who ∷ []))
  once_more at n once =
      none_twice_append (named individuals text at) (n.who ∷ []) once (none_twice_one n.who) (λ x h k.
      never_both (among (who_at individuals text at) (named individuals text at))
      ((tells_among (who_at individuals text at) (named individuals text at)).told (Memᴰ.cast (n.is ∙ sym (Memᴰ.eq_of_singleton k)) h)) n.met.new)

  module _ (line at taken group : ℕ) (l : Listing species individuals text line at taken group) (n : Noted at) where
    named-noted : named individuals text (n.next + 1) ≡ named individuals text at ++ (n.who ∷ [])
    named-noted = named_next species individuals text line at taken group l n.next (single n.who) n.met ∙ ap (λ (i : ℕ). named individuals text at ++ (i ∷ [])) n.is

    who-known : n.who < length individuals
    who-known = rw n.is at n.met.known

    onwards-noted : at < n.next + 1
    onwards-noted = let p = n.met.place in omega arith

    item_last : byte_at text n.next ≡ 10 → Itemized line at taken
    item_last feed =
        record {
          js = n.who ∷ [];
          end = n.next + 1;
          onwards = onwards-noted;
          derived = last who-known (rw feed at n.derived);
          set = union group (single n.who);
          listed = list_ends species individuals text line at taken group l n.next (single n.who) n.met feed;
          all_named = named-noted;
          once = λ o. rw named-noted (once_more at n o);
        }

    item_more : byte_at text n.next ≡ 44 → Itemized line (n.next + 1) taken → Itemized line at taken
    item_more comma i =
        let on = i.onwards in
        let off = onwards-noted in
        record {
          js = n.who ∷ i.js;
          end = i.end;
          onwards = omega arith;
          derived = more who-known (rw comma at n.derived) i.derived;
          set = i.set;
          listed = i.listed;
          all_named = i.all_named ∙ ap (λ (k : List ℕ). k ++ i.js) named-noted ∙ append_assoc (named individuals text at) (n.who ∷ []) i.js;
          once = λ o. i.once (rw named-noted (once_more at n o));
        }

  itemized : (k line at taken group : ℕ) → length text < at + k → Listing species individuals text line at taken group → Itemized line at taken
  itemized zero line at taken group room l = let w = l.begun.within in absurd (omega arith)
  itemized (suc k) line at taken group room l = go (noted line at taken group l) (λ next g r m. itemized k line next taken g r m)
    where
      go : Noted at → ((next g : ℕ) → length text < next + k → Listing species individuals text line next taken g → Itemized line next taken) → Itemized line at taken
      go n later = by (ℕ_discrete (byte_at text n.next) 10) (ℕ_discrete (byte_at text n.next) 44)
        where
          by : Dec (byte_at text n.next ≡ 10) → Dec (byte_at text n.next ≡ 44) → Itemized line at taken
          by (yes feed) d = item_last line at taken group l n feed
          by (no f) (yes comma) =
              let on = onwards-noted line at taken group l n in
              item_more line at taken group l n comma
              (later (n.next + 1) (union group (single n.who)) (omega arith) (list_more species individuals text line at taken group l n.next (single n.who) n.met comma))
          by (no f) (no g) = absurd (never n.next (list-stray species individuals text line at taken group l n.next (single n.who) n.met f g))

  -- ---- the lines

  record Lined (line at : ℕ) : Type 0 where
    whose : List (List ℕ)
    derived : Lines individuals (drop line species) whose (drop at text)
    end : ℕ
    over : end ≡ length text
    taken : ℕ
    heading : Heading species individuals text (length species) end taken
    all_named : named individuals text end ≡ named individuals text at ++ flatten whose
    once : NoneTwice (named individuals text at) → NoneTwice (named individuals text end)

  lined_none : (line at taken : ℕ) → line ≡ length species → Heading species individuals text line at taken → Lined line at
  unfolding flatten
  lined_none line at taken e h =
      let final : Heading species individuals text (length species) at taken = rw e at h in
      let w = h.begun.within in
      let over : at ≡ length text = reached (dec_lt at (length text)) final w in
      record {
        whose = [];
        derived = rw (drop_of_length-le species {i = line} (omega arith), drop_of_length-le text {i = at} (omega arith)) none;
        end = at;
        over = over;
        taken = taken;
        heading = final;
        all_named = sym (append-nil (named individuals text at));
        once = λ o. o;
      }
    where
      reached : Dec (at < length text) → Heading species individuals text (length species) at taken → at ≤ length text → at ≡ length text
      reached (yes here) final w = absurd (never at (stands-beyond species individuals text at taken final here))
      reached (no n) final w = omega arith

  line_on : (line at taken : ℕ) → line < length species → (h : Headed line at taken) (i : Itemized line h.next taken) → Lined (suc line) i.end → Lined line at
  unfolding flatten
  line_on line at taken few h i r =
      record {
        whose = i.js ∷ r.whose;
        derived = rw (drop-cons species line [] few) (a_line h.derived i.derived r.derived);
        end = r.end;
        over = r.over;
        taken = r.taken;
        heading = r.heading;
        all_named = r.all_named ∙ ap (λ (k : List ℕ). k ++ flatten r.whose) (i.all_named ∙ ap (λ (k : List ℕ). k ++ i.js) h.same)
            ∙ append_assoc (named individuals text at) i.js (flatten r.whose);
        once = λ o. r.once (i.once (rw h.same o));
      }

  lined : (k line at taken : ℕ) → line + k ≡ length species → Heading species individuals text line at taken → Lined line at
  lined zero line at taken counts h = lined_none line at taken (omega arith) h
  lined (suc k) line at taken counts h = go (headed line at taken h (omega arith)) (λ next t c g. lined k (suc line) next t c g)
    where
      go : Headed line at taken
          → ((next t : ℕ) → suc line + k ≡ length species → Heading species individuals text (suc line) next t → Lined (suc line) next) → Lined line at
      go d later = on (itemized (suc (length text)) line d.next taken 0 (omega arith) d.listing)
        where
          on : Itemized line d.next taken → Lined line at
          on i = line_on line at taken (omega arith) d i (later i.end (union taken i.set) (omega arith) i.listed.heading)

  -- ---- the mapping

  all : Lined 0 0
  all = lined (length species) 0 0 0 (omega arith) (heading_first species individuals text)

  all_are : named individuals text all.end ≡ flatten all.whose
  all_are = all.all_named ∙ ap (λ (k : List ℕ). k ++ flatten all.whose) (named_none individuals text)

  none_once : NoneTwice (named individuals text 0)
  unfolding NoneTwice
  none_once = rw (named_none individuals text) tt

  pub good-derived : Maps species individuals text
  good-derived =
      record {
        whose = all.whose;
        derived = all.derived;
        once = rw all_are at (all.once none_once);
        all = λ j h. rw all_are at
            (none_missing species individuals text all.end all.taken all.heading all.over
            (clean_left_out text all.end species individuals (no_fault_lem species individuals text good all.end all.heading.begun.within) all.over) j h);
      }
