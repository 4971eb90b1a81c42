-- What comparing a message, and all messages of a channel, comes to.
use Rattle.std.proofs.Common.{◌≡◌, ℕ, ◌+◌, List, [], ◌∷◌, ◌++◌, length, Option, None, Some, option_to_list, MatchOption, Result, Ok, Err, refl, sym, ap, subst, ◌∙◌, arith}
use Rattle.ch11_layout.specs.Stamps.{Recorded}
use Rattle.ch11_reader.specs.Contents.{total_in}
use Rattle.ch11_reader.specs.Recording.{Found, packets_in}
use Rattle.ch11_reader.specs.declared.packet.Packet.{Packet}
use Rattle.ch11_stream.specs.Reading.{IsEnd, IsStep, Reading, at_start, last_found}
use Rattle.ch11_stream.proofs.Readings.{IsAmid, amid_on, amid_start}
use Rattle.bench_select.specs.declared.selection.Selection.{Selection}
use Rattle.bench_compare.specs.declared.channels.Asked.{Asked}
use Rattle.bench_compare.specs.declared.channels.Standing.{Standing}
use Rattle.bench_compare.specs.declared.differences.Difference.{Difference}
use Rattle.bench_compare.specs.declared.differences.Origins.{Origins}
use Rattle.bench_compare.specs.declared.fault.CompareFault.{CompareFault}
use Rattle.bench_compare.specs.declared.differences.Part.TheVariants.{MissingInFirst}
use Rattle.bench_compare.specs.Channels.{Compares, ComparesAll, EndsWith, FindsDifference, left_of, origins_by}
use Rattle.bench_compare.specs.Chosen.{chosen_in, chosen_of}
use Rattle.bench_compare.specs.Differences.{difference, difference_at}
use Rattle.bench_compare.specs.Passes.{AreKept, IsUnderWay, Passing, Takes, pass_to_come, to_come}
use Rattle.bench_compare.proofs.Coming.{behind_all, coming_end, coming_on, way_start}

-- ---- a pass

no_items : {A : Type 0} (xs : List A) → length xs ≡ 0 → xs ≡ []
no_items [] none = refl
no_items (x ∷ xs) none = absurd (omega (arith, none))

-- the first of those that are kept is taken
pub taken : (s : Selection) (channel : ℕ) (file : List ℕ) (ps : List Found) (before mid now : Passing) (o : Option Recorded) (n more : ℕ) → AreKept s channel file ps before mid
    → n ≡ length mid.kept → MatchOption o ((n ≡ 0) × (more ≡ 0)) (λ _. more + 1 ≡ n) → mid.kept ≡ option_to_list o ++ now.kept → now.reading ≡ mid.reading
    → Takes s channel file ps (Ok o) before now
taken s channel file ps before mid now None n more k long counts is same = k.none (no_items mid.kept (omega (arith, long, counts.0)))
taken s channel file ps before mid now (Some m) n more k long counts is same =
    let some = k.some m now.kept is in
    record {
      way = subst (λ (r : Reading). IsUnderWay file r) (sym same) some.0;
      first = some.1 ∙ ap (λ (l : List Recorded). l ++ to_come s channel ps mid.reading) is ∙ ap (λ (r : Reading). m ∷ (now.kept ++ to_come s channel ps r)) (sym same);
    }

-- ---- a message

pub compares_one : (within : ℕ) (s : Selection) (channel : ℕ) (file other : List ℕ) (qs : List Found) (a : Recorded) (second : Option Recorded) (found : Option Difference) (before now : Standing) (pass left : Passing)
    → Takes s channel other qs (Ok second) pass left → Compares within found a second before now → ComparesAll within s channel file other qs (a ∷ []) (Ok found) before pass now left
compares_one within s channel file other qs a None None before now pass left takes compares = absurd compares
compares_one within s channel file other qs a None (Some d) before now pass left takes compares = λ xs. ap (left_of within before (a ∷ xs)) takes ∙ compares xs
compares_one within s channel file other qs a (Some b) None before now pass left takes compares =
    (takes.way, λ xs. ap (left_of within before (a ∷ xs)) takes.first ∙ compares xs (pass_to_come s channel qs left))
compares_one within s channel file other qs a (Some b) (Some d) before now pass left takes compares =
    λ xs. ap (left_of within before (a ∷ xs)) takes.first ∙ compares xs (pass_to_come s channel qs left)

-- nothing more is to come of the first recording, and this message of the second
pub missing_first : (within : ℕ) (st : Standing) (b : Recorded) (number : ℕ) (o : Origins) (all ys : List Recorded) → all ≡ b ∷ ys → number ≡ st.same + 1 → o ≡ origins_by st.origins 0 b.stamp
    → ◌≡◌ {A = Option Difference} (Some (difference_at number MissingInFirst o None (Some b))) (left_of within st [] all)
missing_first within st b number o all ys is count from =
    ap (λ (n : ℕ). Some (difference_at n MissingInFirst o None (Some b))) count
    ∙ ap (λ (x : Origins). Some (difference_at (st.same + 1) MissingInFirst x None (Some b))) from
    ∙ ap (left_of within st []) (sym is)

-- or none
pub none_missing : (within : ℕ) (st : Standing) (all : List Recorded) → all ≡ [] → ◌≡◌ {A = Option Difference} None (left_of within st [] all)
none_missing within st all is = ap (left_of within st []) (sym is)

-- none is chosen
pub compares_none : (within : ℕ) (s : Selection) (channel : ℕ) (file other : List ℕ) (qs : List Found) (ms : List Recorded) (st : Standing) (pass : Passing) → ms ≡ [] → IsUnderWay other pass.reading
    → ComparesAll within s channel file other qs ms (Ok None) st pass st pass
compares_none within s channel file other qs ms st pass none way = (way, λ xs. ap (λ (l : List Recorded). left_of within st (l ++ xs) (pass_to_come s channel qs pass)) none)

-- ---- a channel

module _ (within : ℕ) (s t : Selection) (own channel : ℕ) (file other : List ℕ) (ps qs : List Found) where
  -- so much was compared
  pub record IsComparing (now : Reading) (st : Standing) (pass : Passing) : Type 0 where
    pub amid : IsAmid file now
    pub way : IsUnderWay other pass.reading
    pub same : left_of within st (to_come s own ps now) (pass_to_come t channel qs pass) ≡ difference within (chosen_in s own ps) (chosen_in t channel qs)

  pub compares_on : (before now : Reading) (p : Packet) (ms : List Recorded) (st then : Standing) (pass left : Passing) → IsStep before now p → packets_in file ≡ Ok ps → ms ≡ chosen_of s own p.before (last_found now p)
      → IsComparing before st pass → ComparesAll within t channel file other qs ms (Ok None) st pass then left → IsComparing now then left
  compares_on before now p ms st then pass left step read is c all = record {
    amid = amid_on file before now p step c.amid;
    way = all.0;
    same =
        let number : chosen_of s own p.before (last_found now p) ≡ chosen_of s own (total_in before.earlier) (last_found now p) = ap (λ (n : ℕ). chosen_of s own n (last_found now p)) (behind_all before now p step) in
        let whole : ms ++ to_come s own ps now ≡ to_come s own ps before =
        ap (λ (l : List Recorded). l ++ to_come s own ps now) (is ∙ number) ∙ sym (coming_on s own file before now p ps step c.amid read) in
        sym (all.1 (to_come s own ps now)) ∙ ap (λ (l : List Recorded). left_of within st l (pass_to_come t channel qs pass)) whole ∙ c.same;
  }

  pub differs_in : (before now : Reading) (p : Packet) (ms : List Recorded) (st then : Standing) (pass left : Passing) (d : Difference) → IsStep before now p → packets_in file ≡ Ok ps → ms ≡ chosen_of s own p.before (last_found now p)
      → IsComparing before st pass → ComparesAll within t channel file other qs ms (Ok (Some d)) st pass then left → Some d ≡ difference within (chosen_in s own ps) (chosen_in t channel qs)
  differs_in before now p ms st then pass left d step read is c all =
      let number : chosen_of s own p.before (last_found now p) ≡ chosen_of s own (total_in before.earlier) (last_found now p) = ap (λ (n : ℕ). chosen_of s own n (last_found now p)) (behind_all before now p step) in
      let whole : ms ++ to_come s own ps now ≡ to_come s own ps before =
      ap (λ (l : List Recorded). l ++ to_come s own ps now) (is ∙ number) ∙ sym (coming_on s own file before now p ps step c.amid read) in
      sym (all (to_come s own ps now)) ∙ ap (λ (l : List Recorded). left_of within st l (pass_to_come t channel qs pass)) whole ∙ c.same

  begun : IsComparing (at_start (Some file)) (record { same = 0; origins = None }) (record { reading = at_start (Some other); kept = [] })
  begun = record { amid = amid_start file; way = way_start other; same = refl }

  pub starts : (now : Reading) (st : Standing) (pass : Passing) → now ≡ at_start (Some file) → st ≡ record { same = 0; origins = None } → pass ≡ record { reading = at_start (Some other); kept = [] } → IsComparing now st pass
  starts now st pass is begin first = subst (λ (r : Reading). IsComparing r st pass) (sym is) (subst (λ (x : Standing). IsComparing (at_start (Some file)) x pass) (sym begin) (subst (IsComparing (at_start (Some file)) (record { same = 0; origins = None })) (sym first) begun))

  -- nothing more is to come of the first recording
  pub ends : (now last : Reading) (st : Standing) (pass : Passing) (d : Option Difference) → IsEnd now last → packets_in file ≡ Ok ps → IsComparing now st pass → d ≡ left_of within st [] (pass_to_come t channel qs pass)
      → d ≡ difference within (chosen_in s own ps) (chosen_in t channel qs)
  ends now last st pass d e read c is = is ∙ ap (λ (l : List Recorded). left_of within st l (pass_to_come t channel qs pass)) (sym (coming_end s own file now last ps e c.amid read)) ∙ c.same

-- whatever it comes to
pub ends_by : (asked : Asked) (file other : List ℕ) (ps qs : List Found) (now last : Reading) (st : Standing) (pass : Passing) (r : Result (Option Difference) CompareFault) → IsEnd now last → packets_in file ≡ Ok ps
    → IsComparing asked.within asked.first.selection.now asked.second.selection.now asked.first.channel asked.second.channel file other ps qs now st pass → EndsWith asked.within asked.second.selection.now asked.second.channel file other qs r st pass
    → FindsDifference asked file other ps qs r
ends_by asked file other ps qs now last st pass (Ok d) e read c is = ends asked.within asked.first.selection.now asked.second.selection.now asked.first.channel asked.second.channel file other ps qs now last st pass d e read c is
ends_by asked file other ps qs now last st pass (Err f) e read c is = is
