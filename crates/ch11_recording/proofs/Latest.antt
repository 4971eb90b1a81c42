-- The latest number that a channel holds is that of the channel's last record.
use Rattle.std.proofs.Common.{◌≡◌, ℕ, Bool, true, false, cond, List, [], ◌∷◌, ◌++◌, refl, sym, ap, ◌∙◌}
use Rattle.ch11_builder.specs.Packet.{Numbered, Channel}
use Rattle.ch11_builder.specs.Packet as packet
use Rattle.ch11_builder.specs.Cutting.{is_empty}
use Rattle.ch11_builder.specs.Held.{Held, fresh, closed, latest_number}
use Rattle.ch11_builder.specs.Laws.{PushedIsLatest}
use Rattle.ch11_recording.specs.declared.item.Item.{Item}
use Rattle.ch11_recording.specs.declared.item.Item.TheVariants as item
use Rattle.ch11_recording.specs.Items.{numbered, record_in, records_in, last_number}
use Rattle.ch11_recording.specs.WrittenFile.{Format, channel_in, concerns, met, after_item, after_items, held_in}
use Rattle.ch11_recording.proofs.Kept.{not_mine, mine, after_channel}

last_both : (before : ℕ) (ns ms : List Numbered) → packet.last_number before (ns ++ ms) ≡ packet.last_number (packet.last_number before ns) ms
last_both before [] ms = refl
last_both before (n ∷ ns) ms = last_both n.number ns ms

module _ (pushed_last : PushedIsLatest) where
  latest_met : (h : Held) (x : Item) → latest_number (met h x) ≡ packet.last_number (latest_number h) (record_in x)
  latest_met h (item.Message channel number message) = pushed_last h (numbered number message)
  latest_met h (item.End channel) = go (is_empty h.records)
    where
      go : (none : Bool) → latest_number (cond none h (closed h)) ≡ latest_number h
      go true = refl
      go false = refl

  latest_after : (h : Held) (x : Item) (b : Bool) → concerns h x ≡ b → latest_number (after_item h x) ≡ packet.last_number (latest_number h) (cond b (record_in x) [])
  latest_after h x true e = ap latest_number (mine h x e) ∙ latest_met h x
  latest_after h x false e = ap latest_number (not_mine h x e)

  latest_items : (h : Held) (items : List Item) → latest_number (after_items h items) ≡ packet.last_number (latest_number h) (records_in h.channel.channel items)
  latest_items h [] = refl
  latest_items h (x ∷ later) =
      let first : List Numbered = cond (concerns h x) (record_in x) [] in
      let rest : List Numbered = records_in h.channel.channel later in
      latest_items (after_item h x) later
      ∙ ap (λ (c : Channel). packet.last_number (latest_number (after_item h x)) (records_in c.channel later)) (after_channel h x)
      ∙ ap (λ (number : ℕ). packet.last_number number rest) (latest_after h x (concerns h x) refl)
      ∙ sym (last_both (latest_number h) first rest)

  pub latest_is_last : (f : Format) (channel : ℕ) (items : List Item) → latest_number (held_in f channel items) ≡ last_number (records_in channel items)
  latest_is_last f channel items = latest_items (fresh (channel_in f channel)) items
