-- Messages that were counted, one after the other.
use Rattle.std.proofs.Common.{◌≡◌, ℕ, ◌+◌, ◌≤◌, List, [], ◌∷◌, ◌++◌, length, reverse, ap, arith}
use Rattle.ch11_f1.specs.BodyReading.{Message}
use Rattle.ch11_layout.specs.Stamps.{kind_of}
use Rattle.ch11_layout.specs.declared.stamps.StampKind.{StampKind}
use Rattle.ch11_reader.specs.Recording.{Found}
use Rattle.ch11_reader.specs.Contents.{total_in, capped}
use Rattle.ch11_stream.proofs.Folding.{one_behind, total_reverse}
use Rattle.bench_select.specs.declared.selection.Selection.{Selection}
use Rattle.bench_draw.specs.Chosen.{chosen, chosen_in, chosen_behind}

-- the chosen ones of the messages so far were counted, and a count beside that one was kept
pub record IsCounting (s : Selection) (kind : StampKind) (old now found before number channel : ℕ) (all rest : List Message) : Type 0 where
  pub passed : number + length rest ≡ before + length all
  pub counted : found + chosen_in s kind number channel rest ≡ chosen_in s kind before channel all
  pub few : found ≤ number
  pub kept : now ≡ old

pub ends : (s : Selection) (kind : StampKind) (old now found before number channel : ℕ) (all rest : List Message) → IsCounting s kind old now found before number channel all rest → rest ≡ [] → found ≡ chosen_in s kind before channel all
ends s kind old now found before number channel all rest g none =
    omega (arith, g.counted, ap (λ (ms : List Message). chosen_in s kind number channel ms) none)

-- the chosen ones of two lists of packets
chosen_both : (s : Selection) (before : ℕ) (ps qs : List Found) → chosen_behind s before (ps ++ qs) ≡ chosen_behind s before ps + chosen_behind s (before + total_in ps) qs
chosen_both s before [] qs = let same : before ≡ before + total_in [] = omega arith in omega (arith, ap (λ (k : ℕ). chosen_behind s k qs) same)
chosen_both s before (p ∷ ps) qs =
    let same : before + length p.messages + total_in ps ≡ before + total_in (p ∷ ps) = omega arith in
    omega (arith, chosen_both s (before + length p.messages) ps qs, ap (λ (k : ℕ). chosen_behind s k qs) same)

-- one packet more, as packets come from a reader
pub one_streamed : (s : Selection) (new next : ℕ) (earlier : List Found) (q : Found) → new ≡ capped (chosen s (reverse earlier))
    → next ≡ capped (new + chosen_in s (kind_of q.header) (total_in earlier) q.header.channel q.messages) → next ≡ capped (chosen s (reverse (q ∷ earlier)))
one_streamed s new next earlier q counted one = omega (arith, counted, one, whole)
  where
    place : 0 + total_in (reverse earlier) ≡ total_in earlier
    place = omega (arith, total_reverse earlier)

    last : chosen_behind s (0 + total_in (reverse earlier)) (q ∷ []) ≡ chosen_in s (kind_of q.header) (total_in earlier) q.header.channel q.messages
    last = omega (arith, ap (λ (k : ℕ). chosen_in s (kind_of q.header) k q.header.channel q.messages) place)

    whole : chosen s (reverse (q ∷ earlier)) ≡ chosen s (reverse earlier) + chosen_in s (kind_of q.header) (total_in earlier) q.header.channel q.messages
    whole = omega (arith, ap (chosen s) (one_behind q earlier), chosen_both s 0 (reverse earlier) (q ∷ []), last)
