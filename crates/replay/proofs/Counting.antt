-- How many messages of a channel stand before a place.
use Rattle.std.proofs.Common.{◌≡◌, ℕ, ◌+◌, ◌≤◌, Bool, true, false, cond, eqb, List, [], ◌∷◌, ◌++◌, length, map, refl, sym, ap, ◌∙◌, arith}
use Rattle.std.specs.List.{count_by}
use Rattle.std.proofs.lemmas.List.{length-map, length-append, map-append}
use Rattle.std.proofs.lemmas.List.Sums.{sum_by-append, sum_by-cons, sum_by-take-le}
use Rattle.job_file.specs.Jobs.{JobState}
use Rattle.ch11_f1.specs.BodyReading.{Message}
use Rattle.ch11_f1.specs.Again.{as_message}
use Rattle.ch11_builder.specs.Packet.{Numbered, messages_of}
use Rattle.ch11_reader.specs.Recording.{Found}
use Rattle.ch11_reader.specs.Contents.{reading, heard_of, heard_in}
use Rattle.bench_report.specs.Reports.{ChannelPart}
use Rattle.replay.specs.Accord.{kept_in, AgreesOn}
use Rattle.replay.specs.Places as place
use Rattle.replay.specs.Places.{heard_channels}

abbrev pub is_of : ℕ → ℕ → Bool
is_of channel c = eqb c channel

both : (channel : ℕ) (xs ys : List ℕ) → count_by (is_of channel) (xs ++ ys) ≡ count_by (is_of channel) xs + count_by (is_of channel) ys
both channel xs ys = sum_by-append (λ c. cond (is_of channel c) 1 0) xs ys

-- all messages of a packet are of its channel
in_packet : (own channel : ℕ) (ms : List Message)
    → count_by (is_of channel) (map (λ (h : ℕ × Message). h.0) (map (λ (m : Message). (own, m)) ms)) ≡ length (cond (eqb own channel) ms [])
in_packet own channel [] = by_case (eqb own channel)
  where
    by_case : (b : Bool) → 0 ≡ length (cond b (let none : List Message = [] in none) [])
    by_case true = refl
    by_case false = refl
in_packet own channel (m ∷ ms) =
    sum_by-cons (λ c. cond (is_of channel c) 1 0) own (map (λ (h : ℕ × Message). h.0) (map (λ (x : Message). (own, x)) ms))
    ∙ ap (λ n. cond (eqb own channel) 1 0 + n) (in_packet own channel ms)
    ∙ by_case (eqb own channel)
  where
    by_case : (b : Bool) → cond b 1 0 + length (cond b ms []) ≡ length (cond b (m ∷ ms) [])
    by_case true = omega arith
    by_case false = refl

-- as many messages of a channel as the file is read to have
pub counted : (found : List Found) (channel : ℕ) → count_by (is_of channel) (heard_channels found) ≡ length (reading found channel)
counted [] channel = refl
counted (p ∷ ps) channel =
    let own : List Message = cond (eqb p.header.channel channel) p.messages [] in
    ap (count_by (is_of channel)) (map-append (λ (h : ℕ × Message). h.0) (heard_of p) (heard_in ps))
    ∙ both channel (map (λ (h : ℕ × Message). h.0) (heard_of p)) (heard_channels ps)
    ∙ ap (λ n. n + count_by (is_of channel) (heard_channels ps)) (in_packet p.header.channel channel p.messages)
    ∙ ap (λ n. length own + n) (counted ps channel)
    ∙ sym (length-append own (reading ps channel))

-- no more of them stand before a place
pub not_more : (found : List Found) (n channel : ℕ) → place.heard_of found n channel ≤ length (reading found channel)
not_more found n channel =
    omega (arith, sum_by-take-le (λ c. cond (is_of channel c) 1 0) (heard_channels found) n, counted found channel)

-- and no more than the kept messages of the channel's job
pub room : (found : List Found) (n : ℕ) (job : JobState) (part : ChannelPart) → AgreesOn found job part
    → place.heard_of found n job.channel ≤ length (kept_in job part)
room found n job part agrees =
    let same : length (reading found job.channel) ≡ length (kept_in job part) =
    ap length agrees.read
    ∙ length-map (messages_of (kept_in job part)) as_message
    ∙ length-map (kept_in job part) (λ (m : Numbered). m.message) in
    omega (arith, not_more found n job.channel, same)
