-- A builder after its first record.
use Rattle.std.proofs.Common.{ℕ, ◌≡◌, List, [], ◌∷◌, refl, sym, ◌∙◌, ap}
use Rattle.mil_word.specs.declared.Line.{Line}
use Rattle.mil_message.specs.declared.forms.Form.{Form}
use Rattle.ch11_f1.specs.declared.Record.{Record}
use Rattle.mil_monitor.specs.Observed.{observed}
use Rattle.ch11_builder.specs.Packet.{Numbered, Channel, packet}
use Rattle.ch11_builder.specs.Held.{Held, fresh, fits, pushed, packet_of}
use Rattle.bench_one.specs.One.{only_talk, channel_of, packet_of_send}

abbrev first_held : Channel → Numbered → Held
first_held c n = record { channel = c; place = 0; before = 0; records = n ∷ [] }

pushed_first : (c : Channel) (n : Numbered) → pushed (fresh c) n ≡ first_held c n
unfolding pushed fits
pushed_first c n = refl

held_first : (c : Channel) (n : Numbered) (b h : Held) → b ≡ fresh c → h ≡ pushed b n → h ≡ first_held c n
held_first c n b h is next = next ∙ ap (λ s. pushed s n) is ∙ pushed_first c n

-- it holds a record
pub first_is_held : (c : Channel) (n : Numbered) (b h : Held) → b ≡ fresh c → h ≡ pushed b n → h.records ≡ [] → ⊥
first_is_held c n b h is next none =
    let e : n ∷ [] ≡ [] = sym (ap (λ (s : Held). s.records) (held_first c n b h is next)) ∙ none in cc

-- its packet is that of the record
pub first_packet : (channel version : ℕ) (line : Line) (form : Form) (recorded : Record) (b h : Held) (bytes : List ℕ)
    → recorded ≡ observed (only_talk line form) → b ≡ fresh (channel_of channel version) → h ≡ pushed b (record { number = 1; message = recorded })
    → bytes ≡ packet_of h → bytes ≡ packet_of_send channel version line form
unfolding packet_of_send
first_packet channel version line form recorded b h bytes seen is next of =
    of ∙ ap packet_of (held_first (channel_of channel version) (record { number = 1; message = recorded }) b h is next)
    ∙ ap (λ m. packet (channel_of channel version) 0 0 (record { number = 1; message = m } ∷ [])) seen
