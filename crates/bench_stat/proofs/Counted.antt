-- What is counted of a channel, with one packet more.
use Rattle.std.proofs.Common.{◌≡◌, ℕ, List, [], ◌∷◌, ◌++◌, reverse, Bool, true, sym, ap, subst, ◌∙◌}
use Rattle.std.specs.Prelude.{◌==◌, if◌then◌else◌}
use Rattle.std.proofs.lemmas.Bool.{eq-eqb}
use Rattle.ch11_header.specs.declared.header.Header.{Header}
use Rattle.ch11_f1.specs.BodyReading.{Message}
use Rattle.ch11_layout.specs.Stamps.{Recorded, kind_of}
use Rattle.ch11_reader.specs.declared.packet.Packet.{Packet}
use Rattle.ch11_reader.specs.Recording.{Found}
use Rattle.ch11_reader.specs.Contents.{total_in}
use Rattle.bench_select.specs.declared.selection.Selection.{Selection}
use Rattle.bench_stat.specs.Chosen.{history_of, picked}
use Rattle.bench_stat.specs.Streaming.{IsPacketBehind}
use Rattle.bench_stat.proofs.Streamed.{history_more, history_other}

-- a packet of the channel
pub counted_here : (P : List Recorded → Type 0) (s : Selection) (channel : ℕ) (ps : List Found) (q : Found) (p : Packet) (messages : List Message) → IsPacketBehind ps q p messages → p.header.channel ≡ channel
    → P (reverse (picked s (kind_of p.header) channel p.before messages) ++ history_of s ps channel) → P (history_of s (ps ++ q ∷ []) channel)
counted_here P s channel ps q p messages b here is = subst P (sym same) is
  where
    own : (q.header.channel == channel) ≡ true
    own = eq-eqb q.header.channel channel (ap (λ (h : Header). h.channel) b.header ∙ here)

    same : history_of s (ps ++ q ∷ []) channel ≡ reverse (picked s (kind_of p.header) channel p.before messages) ++ history_of s ps channel
    same =
        history_more s channel ps q
        ∙ ap (λ (x : Bool). reverse (if x then picked s (kind_of q.header) channel (total_in ps) q.messages else []) ++ history_of s ps channel) own
        ∙ ap (λ (n : ℕ). reverse (picked s (kind_of q.header) channel n q.messages) ++ history_of s ps channel) (sym b.before)
        ∙ ap (λ (ms : List Message). reverse (picked s (kind_of q.header) channel p.before ms) ++ history_of s ps channel) b.given
        ∙ ap (λ (h : Header). reverse (picked s (kind_of h) channel p.before messages) ++ history_of s ps channel) b.header

-- one of another channel
pub passed_elsewhere : (P : List Recorded → Type 0) (s : Selection) (channel : ℕ) (ps : List Found) (q : Found) (p : Packet) (messages : List Message) → IsPacketBehind ps q p messages → (p.header.channel ≡ channel → ⊥) → P (history_of s ps channel)
    → P (history_of s (ps ++ q ∷ []) channel)
passed_elsewhere P s channel ps q p messages b other is = subst P (sym (history_other s channel ps q (λ e. other (ap (λ (h : Header). h.channel) (sym b.header) ∙ e)))) is
