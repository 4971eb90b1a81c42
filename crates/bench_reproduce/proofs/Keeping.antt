-- The messages of a channel, kept one after the other.
use Rattle.std.proofs.Common.{◌≡◌, ℕ, ◌+◌, List, [], ◌∷◌, ◌++◌, length, map, reverse, sym, ap, ◌∙◌, append_assoc, append-nil, arith}
use Rattle.ch11_f1.specs.BodyReading.{Message}
use Rattle.ch11_layout.specs.Stamps.{Recorded, recorded}
use Rattle.ch11_layout.specs.declared.stamps.StampKind.{StampKind}
use Rattle.ch11_reader.specs.declared.packet.Packet.{Packet}
use Rattle.ch11_reader.specs.Recording.{Found}
use Rattle.ch11_stream.specs.Reading.{IsStep, Reading, last_found}
use Rattle.ch11_stream.proofs.Folding.{one_behind}
use Rattle.bench_reproduce.specs.Readings.{messages_in, messages_of}

-- ---- the messages of a packet

pub record IsKeeping (kind : StampKind) (start items : List Recorded) (before number : ℕ) (all rest : List Message) : Type 0 where
  pub counted : number + length rest ≡ before + length all
  pub same : items ++ map (recorded kind) rest ≡ start ++ map (recorded kind) all

pub goes_on : (kind : StampKind) (start items after : List Recorded) (before number : ℕ) (all rest others : List Message) (m : Message)
    → IsKeeping kind start items before number all rest → rest ≡ m ∷ others → after ≡ items ++ recorded kind m ∷ []
    → IsKeeping kind start after before (number + 1) all others
goes_on kind start items after before number all rest others m k is more = record {
  counted = omega (arith, k.counted, ap length is);
  same = ap (λ (l : List Recorded). l ++ map (recorded kind) others) more
      ∙ append_assoc items (recorded kind m ∷ []) (map (recorded kind) others)
      ∙ ap (λ (ms : List Message). items ++ map (recorded kind) ms) (sym is)
      ∙ k.same;
}

pub ends : (kind : StampKind) (start items : List Recorded) (before number : ℕ) (all rest : List Message) → IsKeeping kind start items before number all rest → rest ≡ []
    → items ≡ start ++ map (recorded kind) all
ends kind start items before number all rest k none =
    sym (append-nil items) ∙ ap (λ (ms : List Message). items ++ map (recorded kind) ms) (sym none) ∙ k.same

-- ---- the packets of a file

more : (channel : ℕ) (ps : List Found) (q : Found) → messages_in channel (ps ++ q ∷ []) ≡ messages_in channel ps ++ messages_of channel q
more channel [] q = append-nil (messages_of channel q)
more channel (p ∷ ps) q =
    ap (λ (l : List Recorded). messages_of channel p ++ l) (more channel ps q)
    ∙ sym (append_assoc (messages_of channel p) (messages_in channel ps) (messages_of channel q))

-- one packet more
pub heard_on : (channel : ℕ) (before now : Reading) (p : Packet) (items after : List Recorded) → IsStep before now p → items ≡ messages_in channel (reverse before.earlier)
    → after ≡ items ++ messages_of channel (last_found now p) → after ≡ messages_in channel (reverse now.earlier)
heard_on channel before now p items after step so_far is =
    let q : Found = last_found now p in
    let all : reverse now.earlier ≡ reverse before.earlier ++ q ∷ [] = ap reverse step.entered ∙ one_behind q before.earlier in
    is ∙ ap (λ (l : List Recorded). l ++ messages_of channel q) so_far
    ∙ sym (more channel (reverse before.earlier) q)
    ∙ ap (messages_in channel) (sym all)
