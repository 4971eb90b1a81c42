-- A job that is played again, message by message, and what is at fault where it stops.
use Rattle.std.proofs.Common.{◌≡◌, ℕ, suc, ◌+◌, ◌<◌, ◌≤◌, List, [], ◌∷◌, ◌++◌, length, take, Some, refl, sym, ap, ◌∙◌, subst, append_assoc, ◌⊎◌, ⊎_elim, inl, inr, arith}
use Rattle.std.specs.List.{slice_get}
use Rattle.std.proofs.lemmas.Bool.{cases_lt}
use Rattle.std.proofs.lemmas.List.{append-nil, length-append, take-append-le, take_all}
use Rattle.std.proofs.lemmas.Option.{slice_get_within}
use Rattle.ch11_f1.specs.declared.Record.{Record}
use Rattle.bc_machine.specs.Running.{MachineState}
use Rattle.job_file.specs.Jobs.{JobState}
use Rattle.ch11_f1.specs.BodyReading.{Message}
use Rattle.ch11_f1.specs.Again.{as_message}
use Rattle.ch11_builder.specs.Packet.{Numbered, messages_of}
use Rattle.ch11_builder.specs.Packet as packet
use Rattle.ch11_recording.specs.Items.{numbered, last_number}
use Rattle.ch11_reader.specs.Recording.{Found}
use Rattle.ch11_reader.specs.Contents.{reading}
use Rattle.bench_report.specs.Reports.{ChannelPart}
use Rattle.bench_settings.specs.Kept.{kept_records}
use Rattle.bench_settings.proofs.Lists.{map_at}
use Rattle.replay.specs.Accord.{played, kept_in, AgreesOn}
use Rattle.replay.specs.Differences.{awaited, IsUnlike, IsLeftOver, IsMiscounted, IsAtFault, IsFirstNumberAtFault}
use Rattle.replay.specs.declared.tracks.Mark.{Mark}
use Rattle.replay.specs.Tracks.{IsMarked, AreMarks}
use Rattle.replay.specs.Playing.{IsNextRecorded, IsNextRefused, IsNextMissing, IsOver, HasOneMore, IsPlaying}
use Rattle.replay.proofs.KeptLists.{heard, heard_both, heard_length, kept_next, kept_same, HasMore, has_more, in_front, at_seam, stands_early}

pub last_is : (before : ℕ) (ns : List Numbered) (x : Numbered) → packet.last_number before (ns ++ x ∷ []) ≡ x.number
last_is before [] x = refl
last_is before (n ∷ ns) x = last_is n.number ns x

module _ (found : List Found) (job : JobState) (part : ChannelPart) where
  abbrev rs : List Record
  rs = played job part

  abbrev pub so_far : ℕ → List Numbered
  so_far n = kept_records part.refused (take n rs)

  -- ---- one message more

  more_states : (ns : List Numbered) (x : Numbered) (states : List Mark) (m : Mark) → AreMarks job part ns states → IsMarked job part x.number m
      → AreMarks job part (ns ++ x ∷ []) (states ++ m ∷ [])
  more_states ns x states m all there = record {
    counted = length-append states (m ∷ []) ∙ ap (λ k. k + 1) all.counted ∙ longer;
    each = λ k s at. ⊎_elim (earlier k s at) (latest k s at) (cases_lt k (length states));
  }
    where
      longer : suc (length ns) + 1 ≡ suc (length (ns ++ x ∷ []))
      longer = omega (arith, length-append ns (x ∷ []))

      earlier : (k : ℕ) (s : Mark) → slice_get (states ++ m ∷ []) k ≡ Some s → k < length states → IsMarked job part (last_number (take k (ns ++ x ∷ []))) s
      earlier k s at less =
          let short : k ≤ length ns = omega (arith, less, all.counted) in
          subst (λ (ms : List Numbered). IsMarked job part (last_number ms) s) (sym (take-append-le k ns (x ∷ []) short)) (all.each k s (sym (in_front states (m ∷ []) k less) ∙ at))

      latest : (k : ℕ) (s : Mark) → slice_get (states ++ m ∷ []) k ≡ Some s → length states ≤ k → IsMarked job part (last_number (take k (ns ++ x ∷ []))) s
      latest k s at le =
          let within : k < length (states ++ m ∷ []) = slice_get_within (states ++ m ∷ []) k s at in
          let here : k ≡ length states = omega (arith, within, length-append states (m ∷ []), le) in
          let same : m ≡ s = let there : slice_get (states ++ m ∷ []) (length states) ≡ Some s = ap (slice_get (states ++ m ∷ [])) (sym here) ∙ at in let seam = at_seam states (m ∷ []) in cc in
          let whole : take k (ns ++ x ∷ []) ≡ ns ++ x ∷ [] = take_all k (ns ++ x ∷ []) (omega (arith, here, all.counted, length-append ns (x ∷ []))) in
          subst (λ (n : ℕ). IsMarked job part n s) (sym (ap last_number whole ∙ last_is 0 ns x)) (subst (IsMarked job part x.number) same there)

  pub keeps : (n : ℕ) (m next : MachineState) (hs rest : List Message) (states : List Mark) (mark : Mark) → IsPlaying found job part n m hs states → IsNextRecorded job part n next hs rest
      → IsMarked job part (n + 1) mark → IsPlaying found job part (n + 1) next rest (states ++ mark ∷ [])
  keeps n m next hs rest states mark is kept_records marked = record {
    there = kept_records.there;
    read =
        is.read
        ∙ ap (λ (xs : List Message). heard (so_far n) ++ xs) kept_records.heard_is
        ∙ sym (append_assoc (heard (so_far n)) (as_message kept_records.message ∷ []) rest)
        ∙ ap (λ (xs : List Message). xs ++ rest) (sym (heard_both (so_far n) (numbered (n + 1) kept_records.message ∷ [])) ∙ ap heard (sym longer));
    all = subst (λ (ns : List Numbered). AreMarks job part ns (states ++ mark ∷ [])) (sym longer) (more_states (so_far n) (numbered (n + 1) kept_records.message) states mark is.all marked);
  }
    where
      longer : so_far (n + 1) ≡ so_far n ++ numbered (n + 1) kept_records.message ∷ []
      longer = kept_next part.refused n rs kept_records.message kept_records.comes kept_records.listed

  pub passes : (n : ℕ) (m next : MachineState) (hs rest : List Message) (states : List Mark) → IsPlaying found job part n m hs states → IsNextRefused job part n next hs rest
      → IsPlaying found job part (n + 1) next rest states
  passes n m next hs rest states is passed = record {
    there = passed.there;
    read = is.read ∙ ap (λ (xs : List Message). heard (so_far n) ++ xs) passed.heard_is ∙ ap (λ (ns : List Numbered). heard ns ++ rest) (sym same);
    all = subst (λ (ns : List Numbered). AreMarks job part ns states) (sym same) is.all;
  }
    where
      same : so_far (n + 1) ≡ so_far n
      same = kept_same part.refused n rs passed.message passed.comes passed.listed

  -- ---- where it stops

  -- none of the messages that were played is unlike
  alike : (n k number : ℕ) (hs : List Message) → reading found job.channel ≡ heard (so_far n) ++ hs → n ≤ part.made → number ≤ n → ¬ IsUnlike found job part number
  alike n k number hs read le low u =
      let more : HasMore part.refused 1 n part.made rs = has_more part.refused 1 n part.made rs le in
      let at : slice_get (so_far n ++ more.later) u.place ≡ Some (numbered number u.message) = ap (λ (ns : List Numbered). slice_get ns u.place) (sym more.is) ∙ u.kept in
      let early : u.place < length (so_far n) = stands_early (so_far n) more.later (1 + n) u.place (numbered number u.message) more.larger at (omega (arith, low)) in
      let here : slice_get (so_far n) u.place ≡ Some (numbered number u.message) = sym (in_front (so_far n) more.later u.place early) ∙ at in
      let long : u.place < length (heard (so_far n)) = omega (arith, early, heard_length (so_far n)) in
      u.unlike (ap (λ (ms : List Message). slice_get ms u.place) read
      ∙ in_front (heard (so_far n)) hs u.place long
      ∙ map_at as_message (messages_of (so_far n)) u.place u.message
      (map_at (λ (x : Numbered). x.message) (so_far n) u.place (numbered number u.message) here))

  -- nor is any other number at fault up to there
  sound_below : (n number : ℕ) (hs : List Message) → reading found job.channel ≡ heard (so_far n) ++ hs → n ≤ part.made → n ≤ length rs → number ≤ n → ¬ IsAtFault found job part number
  sound_below n number hs read le short low fault =
      ⊎_elim (alike n 0 number hs read le low)
      (λ other. ⊎_elim
      (λ (l : IsLeftOver found job part number). absurd (omega (arith, l.number_is, le, low)))
      (λ (c : IsMiscounted job part number). absurd (omega (arith, c.number_is, le, short, low))) other) fault

  first_at : (n : ℕ) (hs : List Message) → reading found job.channel ≡ heard (so_far n) ++ hs → n ≤ part.made → n ≤ length rs → IsAtFault found job part (n + 1)
      → IsFirstNumberAtFault found job part (n + 1)
  first_at n hs read le short fault = record { fault = fault; least = λ number less. sound_below n number hs read le short (omega (arith, less)) }

  -- the job makes no more messages, and the report says that it does
  pub ends_early : (n : ℕ) (hs : List Message) → reading found job.channel ≡ heard (so_far n) ++ hs → n < part.made → n ≡ length rs → IsFirstNumberAtFault found job part (n + 1)
  ends_early n hs read less last =
      first_at n hs read (omega (arith, less)) (omega (arith, last))
      (inr (inr (record { wrong = λ e. absurd (omega (arith, less, last, e)); number_is = omega (arith, less, last) })))

  -- the file has another message, or none
  pub differs : (n : ℕ) (hs : List Message) → reading found job.channel ≡ heard (so_far n) ++ hs → n < part.made → IsNextMissing job part n hs → IsFirstNumberAtFault found job part (n + 1)
  differs n hs read less other =
      let within : n < length rs = slice_get_within rs n other.message other.comes in
      let more : HasMore part.refused 1 (n + 1) part.made rs = has_more part.refused 1 (n + 1) part.made rs (omega (arith, less)) in
      let longer : so_far (n + 1) ≡ so_far n ++ numbered (n + 1) other.message ∷ [] = kept_next part.refused n rs other.message other.comes other.listed in
      let all : awaited job part ≡ so_far n ++ (numbered (n + 1) other.message ∷ more.later) =
      more.is ∙ ap (λ (ns : List Numbered). ns ++ more.later) longer ∙ append_assoc (so_far n) (numbered (n + 1) other.message ∷ []) more.later in
      first_at n hs read (omega (arith, less)) (omega (arith, within))
      (inl (record {
        place = length (so_far n);
        message = other.message;
        kept = ap (λ (ns : List Numbered). slice_get ns (length (so_far n))) all ∙ at_seam (so_far n) (numbered (n + 1) other.message ∷ more.later);
        unlike = λ e. other.other (sym (at_seam (heard (so_far n)) hs)
            ∙ ap (slice_get (heard (so_far n) ++ hs)) (heard_length (so_far n))
            ∙ ap (λ (ms : List Message). slice_get ms (length (so_far n))) (sym read) ∙ e);
      }))

  -- the job makes more messages than the report says
  pub goes_on : (hs : List Message) (r : Record) → reading found job.channel ≡ heard (so_far part.made) ++ hs → slice_get rs part.made ≡ Some r → IsFirstNumberAtFault found job part (part.made + 1)
  goes_on hs r read at =
      let within : part.made < length rs = slice_get_within rs part.made r at in
      first_at part.made hs read (omega arith) (omega (arith, within))
      (inr (inr (record { wrong = λ e. absurd (omega (arith, within, e)); number_is = omega (arith, within) })))

  -- the file has one record too many
  pub left_over : (x : Message) (hs : List Message) → reading found job.channel ≡ heard (so_far part.made) ++ x ∷ hs → part.made ≡ length rs → IsFirstNumberAtFault found job part (part.made + 1)
  left_over x hs read all =
      let longer : length (reading found job.channel) ≡ length (so_far part.made) + suc (length hs) =
      ap length read ∙ length-append (heard (so_far part.made)) (x ∷ hs) ∙ ap (λ n. n + suc (length hs)) (heard_length (so_far part.made)) in
      first_at part.made (x ∷ hs) read (omega arith) (omega (arith, all))
      (inr (inl (record { more = omega (arith, longer); number_is = refl })))

  whole : part.made ≡ length rs → so_far part.made ≡ kept_in job part
  whole all = ap (kept_records part.refused) (take_all part.made rs (omega (arith, all)))

  -- all was played, and the file has nothing more
  pub accords : reading found job.channel ≡ heard (so_far part.made) ++ [] → part.made ≡ length rs → AgreesOn found job part
  accords read all = record {
    made = all;
    read = read ∙ append-nil (heard (so_far part.made)) ∙ ap heard (whole all);
  }

  pub all_states : (states : List Mark) → AreMarks job part (so_far part.made) states → part.made ≡ length rs → AreMarks job part (kept_in job part) states
  all_states states are all = subst (λ (ns : List Numbered). AreMarks job part ns states) (whole all) are

  -- ---- as the code meets them

  pub keeps_at : (n : ℕ) (m next : MachineState) (mark : Mark) (hs rest : List Message) (states others : List Mark) → IsPlaying found job part n m hs states
      → IsNextRecorded job part m.point.number next hs rest → mark.number ≡ next.point.number → mark.last ≡ next.latest → others ≡ states ++ mark ∷ []
      → IsPlaying found job part (n + 1) next rest others
  keeps_at n m next mark hs rest states others is kept_records number last pushed =
      let here : IsNextRecorded job part n next hs rest = subst (λ (k : ℕ). IsNextRecorded job part k next hs rest) is.there.number_is kept_records in
      subst (λ (ms : List Mark). IsPlaying found job part (n + 1) next rest ms) (sym pushed)
      (keeps n m next hs rest states mark is here (record { machine = next; there = here.there; number_is = number; last_is = last }))

  pub passes_at : (n : ℕ) (m next : MachineState) (hs rest : List Message) (states : List Mark) → IsPlaying found job part n m hs states
      → IsNextRefused job part m.point.number next hs rest → IsPlaying found job part (n + 1) next rest states
  passes_at n m next hs rest states is passed =
      passes n m next hs rest states is (subst (λ (k : ℕ). IsNextRefused job part k next hs rest) is.there.number_is passed)

  pub stops_at : (n : ℕ) (m : MachineState) (hs : List Message) (states : List Mark) → IsPlaying found job part n m hs states → n < part.made
      → (m.point.number ≡ length rs) ⊎ IsNextMissing job part m.point.number hs → IsFirstNumberAtFault found job part (n + 1)
  stops_at n m hs states is less told =
      ⊎_elim
      (λ last. ends_early n hs is.read less (sym is.there.number_is ∙ last))
      (λ (other : IsNextMissing job part m.point.number hs). differs n hs is.read less (subst (λ (k : ℕ). IsNextMissing job part k hs) is.there.number_is other)) told

  pub ends_at : (n : ℕ) (m : MachineState) (hs : List Message) (states : List Mark) → IsPlaying found job part n m hs states → n ≡ part.made
      → HasOneMore job part m.point.number hs → IsFirstNumberAtFault found job part (part.made + 1)
  ends_at n m hs states is all told =
      ⊎_elim
      (λ more. goes_on hs more.0 read (ap (slice_get rs) (sym number) ∙ more.1))
      (λ over. left_over over.1.0 over.1.1 (read ∙ ap (λ (ms : List Message). heard (so_far part.made) ++ ms) over.1.2) (sym number ∙ over.0)) told
    where
      number : m.point.number ≡ part.made
      number = is.there.number_is ∙ all

      read : reading found job.channel ≡ heard (so_far part.made) ++ hs
      read = subst (λ (k : ℕ). reading found job.channel ≡ heard (so_far k) ++ hs) all is.read

  pub accords_at : (n : ℕ) (m : MachineState) (hs : List Message) (states : List Mark) → IsPlaying found job part n m hs states → n ≡ part.made
      → IsOver job part m.point.number hs → AgreesOn found job part × AreMarks job part (kept_in job part) states
  accords_at n m hs states is all over = (
    accords (subst (λ (k : ℕ). reading found job.channel ≡ heard (so_far k) ++ []) all (is.read ∙ ap (λ (ms : List Message). heard (so_far n) ++ ms) over.1)) made,
    all_states states (subst (λ (k : ℕ). AreMarks job part (so_far k) states) all is.all) made,
  )
    where
      made : part.made ≡ length rs
      made = sym (is.there.number_is ∙ all) ∙ over.0
