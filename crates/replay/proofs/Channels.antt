-- Channels compared, and jobs played one after the other.
use Rattle.std.proofs.Common.{◌≡◌, ℕ, zero, suc, ◌+◌, ◌<◌, ◌≤◌, true, false, List, [], ◌∷◌, ◌++◌, length, map, take, drop, replicate, get_or, Option, Some, None, refl, sym, ap, ◌∙◌, subst, ⊎_elim, arith}
use Rattle.std.specs.Option.{MatchOption}
use Rattle.std.specs.List.{slice_get}
use Rattle.std.proofs.lemmas.Bool.{eq-eqb, eqb-true, cases_lt}
use Rattle.std.proofs.lemmas.List.{take_all, map-append, take_more}
use Rattle.std.proofs.lemmas.Option.{slice_get_read, get_or_from_slice_get}
use Rattle.job_file.specs.Jobs.{JobState}
use Rattle.ch11_f1.specs.BodyReading.{Message}
use Rattle.ch11_reader.specs.declared.packet.Packet.{Packet}
use Rattle.ch11_reader.specs.Recording.{Found, holds_messages}
use Rattle.ch11_reader.specs.Contents.{heard_of, heard_in}
use Rattle.ch11_reader.specs.Listing.{listing, listing_behind}
use Rattle.bench_report.specs.Reports.{ChannelPart}
use Rattle.replay.specs.declared.error.ReplayError.{ReplayError}
use Rattle.replay.specs.declared.error.ReplayError.TheVariants as error
use Rattle.replay.specs.Accord.{reported, is_one, AreOfChannels, AgreesOn}
use Rattle.replay.specs.Differences.{IsWrongChannel, IsStranger}
use Rattle.replay.specs.Places.{heard_channels}
use Rattle.replay.specs.Tracks.{Pair, jobs_in, parts_in}
use Rattle.replay.specs.Playing.{FailsAt}
use Rattle.replay.specs.Opening.{AgreeBefore, FailsIn, channels_in}

-- ---- channels of jobs and report

pub both_longer : (job part : ℕ) (jobs parts own others : List ℕ) (r : Option ℕ) → own ≡ job ∷ jobs → others ≡ part ∷ parts → job ≡ part
    → MatchOption r (parts ≡ jobs) (λ c. IsWrongChannel jobs parts c) → MatchOption r (others ≡ own) (λ c. IsWrongChannel own others c)
both_longer job part jobs parts own others None is_own is_others same alike =
    is_others ∙ ap (λ (c : ℕ). c ∷ parts) (sym same) ∙ ap (λ (cs : List ℕ). job ∷ cs) alike ∙ sym is_own
both_longer job part jobs parts own others (Some c) is_own is_others same w =
    subst (λ (xs : List ℕ). IsWrongChannel xs others c) (sym is_own)
    (subst (λ (ys : List ℕ). IsWrongChannel (job ∷ jobs) ys c) (sym is_others)
    (record {
      place = suc w.place;
      alike = ap (λ (x : ℕ). x ∷ take w.place parts) (sym same) ∙ ap (λ (cs : List ℕ). job ∷ cs) w.alike;
      differ = w.differ;
      named = w.named;
    }))

-- ---- packets as they are listed

listed_length : (earlier ps : List Found) → length (listing_behind earlier ps) ≡ length ps
listed_length earlier [] = refl
listed_length earlier (p ∷ ps) = ap suc (listed_length (p ∷ earlier) ps)

record IsListedAt (ps : List Found) (i : ℕ) (e : Packet) : Type 0 where
  packet : Found
  there : slice_get ps i ≡ Some packet
  header : e.header ≡ packet.header

listed_at : (earlier ps : List Found) (i : ℕ) (d : Packet) → i < length (listing_behind earlier ps) → IsListedAt ps i (get_or (listing_behind earlier ps) i d)
listed_at earlier [] i d less = absurd (omega (arith, less))
listed_at earlier (p ∷ ps) zero d less = record { packet = p; there = refl; header = refl }
listed_at earlier (p ∷ ps) (suc i) d less =
    let later = listed_at (p ∷ earlier) ps i d (omega (arith, less)) in
    record { packet = later.packet; there = later.there; header = later.header }

split_at : (ps : List Found) (i : ℕ) (p : Found) → slice_get ps i ≡ Some p → ps ≡ take i ps ++ p ∷ drop (suc i) ps
split_at [] i p at = absurd cc
split_at (q ∷ ps) zero p at = let same : q ≡ p = cc in ap (λ (x : Found). x ∷ ps) same
split_at (q ∷ ps) (suc i) p at = ap (λ (xs : List Found). q ∷ xs) (split_at ps i p at)

pub stranger_at : (channels : List ℕ) (found : List Found) (i : ℕ) (d : Packet) (es : List Packet) → es ≡ listing found → i < length es → AreOfChannels channels (take i found)
    → (get_or es i d).header.kind ≡ 25 → false ≡ is_one channels (get_or es i d).header.channel → IsStranger channels found (get_or es i d).header.channel
stranger_at channels found i d es listed less known kind unknown =
    let at : IsListedAt found i (get_or es i d) =
    subst (λ (xs : List Packet). i < length xs → IsListedAt found i (get_or xs i d)) (sym listed) (λ l. listed_at [] found i d l) less in
    record {
      before = take i found;
      packet = at.packet;
      later = drop (suc i) found;
      file = split_at found i at.packet at.there;
      known = known;
      messages = eq-eqb at.packet.header.kind 25 (ap (λ h. h.kind) (sym at.header) ∙ kind);
      unknown = ap (λ h. is_one channels h.channel) (sym at.header) ∙ sym unknown;
      named = ap (λ h. h.channel) (sym at.header);
    }

more_known : (channels : List ℕ) (ps : List Found) (i : ℕ) (p : Found) → slice_get ps i ≡ Some p → AreOfChannels channels (take i ps)
    → (holds_messages p.header ≡ true → is_one channels p.header.channel ≡ true) → AreOfChannels channels (take (suc i) ps)
more_known channels [] i p at all one = tt
more_known channels (q ∷ ps) zero p at all one =
    let same : p ≡ q = cc in
    (subst (λ (x : Found). holds_messages x.header ≡ true → is_one channels x.header.channel ≡ true) same one, tt)
more_known channels (q ∷ ps) (suc i) p at all one = (all.0, more_known channels ps i p at all.1 one)

pub known_next : (channels : List ℕ) (found : List Found) (i : ℕ) (d : Packet) (es : List Packet) → es ≡ listing found → i < length es → AreOfChannels channels (take i found)
    → ((get_or es i d).header.kind ≡ 25 → true ≡ is_one channels (get_or es i d).header.channel) → AreOfChannels channels (take (i + 1) found)
known_next channels found i d es listed less known one =
    let at : IsListedAt found i (get_or es i d) =
    subst (λ (xs : List Packet). i < length xs → IsListedAt found i (get_or xs i d)) (sym listed) (λ l. listed_at [] found i d l) less in
    let next : suc i ≡ i + 1 = omega arith in
    subst (λ (n : ℕ). AreOfChannels channels (take n found)) next
    (more_known channels found i at.packet at.there known
    (λ holds. ap (λ h. is_one channels h.channel) (sym at.header) ∙ sym (one (ap (λ h. h.kind) at.header ∙ eqb-true at.packet.header.kind 25 holds))))

pub all_known : (channels : List ℕ) (found : List Found) (i : ℕ) (es : List Packet) → es ≡ listing found → length es ≤ i → AreOfChannels channels (take i found) → AreOfChannels channels found
all_known channels found i es listed le known =
    let short : length found ≤ i = omega (arith, le, ap length listed, listed_length [] found) in
    subst (AreOfChannels channels) (take_all i found short) known

-- ---- channels of the messages

own_channel : (channel : ℕ) (ms : List Message) → replicate (length ms) channel ≡ map (λ (h : ℕ × Message). h.0) (map (λ (m : Message). (channel, m)) ms)
own_channel channel [] = refl
own_channel channel (m ∷ ms) = ap (λ (cs : List ℕ). channel ∷ cs) (own_channel channel ms)

channels_are : (earlier ps : List Found) → channels_in (listing_behind earlier ps) ≡ heard_channels ps
channels_are earlier [] = refl
channels_are earlier (p ∷ ps) =
    ap (λ (cs : List ℕ). cs ++ channels_in (listing_behind (p ∷ earlier) ps)) (own_channel p.header.channel p.messages)
    ∙ ap (λ (cs : List ℕ). map (λ (h : ℕ × Message). h.0) (heard_of p) ++ cs) (channels_are (p ∷ earlier) ps)
    ∙ sym (map-append (λ (h : ℕ × Message). h.0) (heard_of p) (heard_in ps))

pub channels_whole : (found : List Found) (n : ℕ) (cs : List ℕ) → cs ≡ channels_in (take n (listing found)) → length (listing found) ≤ n → cs ≡ heard_channels found
channels_whole found n cs is le = is ∙ ap channels_in (take_all n (listing found) le) ∙ channels_are [] found

-- ---- job after job

pub fails_in : (jobs : List JobState) (parts : List ChannelPart) (found : List Found) (i : ℕ) (job : JobState) (part : ChannelPart) (e : ReplayError)
    → AgreeBefore found jobs parts i → i < length jobs → i < length parts → job ≡ get_or jobs i job → part ≡ get_or parts i part → FailsAt found job part e → FailsIn jobs parts found e
fails_in jobs parts found i job part (error.Mismatch channel number) before jobs_long parts_long job_is part_is fails = record {
  index = i;
  job = job;
  part = part;
  job_there = slice_get_read jobs (length jobs) i job refl jobs_long job_is;
  part_there = slice_get_read parts (length parts) i part refl parts_long part_is;
  before = before;
  named = fails.0;
  first = fails.1;
}
fails_in jobs parts found i job part error.Past before jobs_long parts_long job_is part_is fails = absurd fails
fails_in jobs parts found i job part error.Start before jobs_long parts_long job_is part_is fails = absurd fails
fails_in jobs parts found i job part error.Memory before jobs_long parts_long job_is part_is fails = tt

pub agree_next : (jobs : List JobState) (parts : List ChannelPart) (found : List Found) (i : ℕ) (job : JobState) (part : ChannelPart)
    → AgreeBefore found jobs parts i → job ≡ get_or jobs i job → part ≡ get_or parts i part → AgreesOn found job part → AgreeBefore found jobs parts (i + 1)
agree_next jobs parts found i job part before job_is part_is agrees k j p less j_there p_there =
    ⊎_elim
    (λ low. before k j p low j_there p_there)
    (λ from.
    let here : k ≡ i = omega (arith, less, from) in
    let same_job : job ≡ j = job_is ∙ get_or_from_slice_get jobs i j job (ap (slice_get jobs) (sym here) ∙ j_there) in
    let same_part : part ≡ p = part_is ∙ get_or_from_slice_get parts i p part (ap (slice_get parts) (sym here) ∙ p_there) in
    subst (λ (v : ChannelPart). AgreesOn found j v) same_part (subst (λ (v : JobState). AgreesOn found v part) same_job agrees))
    (cases_lt k i)

-- one job more, with its part
pub jobs_next : (jobs : List JobState) (i : ℕ) (job : JobState) (pairs more : List Pair) (p : Pair) → jobs_in pairs ≡ take i jobs → i < length jobs → job ≡ get_or jobs i job
    → more ≡ pairs ++ p ∷ [] → p.job ≡ job → jobs_in more ≡ take (i + 1) jobs
jobs_next jobs i job pairs more p is less job_is pushed same =
    ap jobs_in pushed ∙ map-append (λ (q : Pair). q.job) pairs (p ∷ [])
    ∙ ap (λ (js : List JobState). js ++ p.job ∷ []) is ∙ ap (λ (j : JobState). take i jobs ++ j ∷ []) (same ∙ job_is) ∙ sym (take_more jobs i job less)

-- the channels of parts, one more
pub reported_next : (parts : List ChannelPart) (i : ℕ) (part : ChannelPart) (channels more : List ℕ) (channel : ℕ) → channels ≡ reported (take i parts) → i < length parts → part ≡ get_or parts i part
    → more ≡ channels ++ channel ∷ [] → channel ≡ part.channel → more ≡ reported (take (i + 1) parts)
reported_next parts i part channels more channel is less part_is pushed same =
    pushed ∙ ap (λ (cs : List ℕ). cs ++ channel ∷ []) is ∙ ap (λ (k : ℕ). reported (take i parts) ++ k ∷ []) same
    ∙ sym (map-append (λ (p : ChannelPart). p.channel) (take i parts) (part ∷ []))
    ∙ ap reported (ap (λ (v : ChannelPart). take i parts ++ v ∷ []) part_is ∙ sym (take_more parts i part less))

pub parts_next : (parts : List ChannelPart) (i : ℕ) (part : ChannelPart) (pairs more : List Pair) (p : Pair) → parts_in pairs ≡ take i parts → i < length parts → part ≡ get_or parts i part
    → more ≡ pairs ++ p ∷ [] → p.part ≡ part → parts_in more ≡ take (i + 1) parts
parts_next parts i part pairs more p is less part_is pushed same =
    ap parts_in pushed ∙ map-append (λ (q : Pair). q.part) pairs (p ∷ [])
    ∙ ap (λ (ps : List ChannelPart). ps ++ p.part ∷ []) is ∙ ap (λ (v : ChannelPart). take i parts ++ v ∷ []) (same ∙ part_is) ∙ sym (take_more parts i part less)
