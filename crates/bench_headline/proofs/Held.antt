-- What an item changes of what a channel holds: never the channel.
use Rattle.std.proofs.Common.{◌≡◌, ℕ, Bool, true, false, cond, List, [], ◌∷◌, refl, ap, ◌∙◌}
use Rattle.ch11_builder.specs.Packet.{Numbered, Channel}
use Rattle.ch11_builder.specs.Cutting.{is_empty}
use Rattle.ch11_builder.specs.Held.{Held, fresh, fits, pushed, closed, with_record}
use Rattle.ch11_recording.specs.declared.item.Item.{Item}
use Rattle.ch11_recording.specs.declared.item.Item.TheVariants as item
use Rattle.ch11_recording.specs.Items.{numbered}
use Rattle.ch11_recording.specs.WrittenFile.{Format, channel_in, concerns, met, after_item, after_items, held_in}

pub kept_open : (h : Held) (n : Numbered) → fits h n ≡ true → pushed h n ≡ with_record h n
unfolding pushed
kept_open h n e = rw e refl

pub opened : (h : Held) (n : Numbered) → fits h n ≡ false → pushed h n ≡ with_record (closed h) n
unfolding pushed
opened h n e = rw e refl

pushed_channel : (h : Held) (n : Numbered) → (pushed h n).channel ≡ h.channel
pushed_channel h n = go (fits h n) refl
  where
    go : (fit : Bool) → fits h n ≡ fit → (pushed h n).channel ≡ h.channel
    go true f = rw (kept_open h n f) refl
    go false f = rw (opened h n f) refl

met_channel : (h : Held) (x : Item) → (met h x).channel ≡ h.channel
met_channel h (item.Message channel number message) = pushed_channel h (numbered number message)
met_channel h (item.End channel) = go h.records refl
  where
    go : (ns : List Numbered) → h.records ≡ ns → (cond (is_empty h.records) h (closed h)).channel ≡ h.channel
    go [] r = rw r refl
    go (n ∷ ns) r = rw r refl

after_channel : (h : Held) (x : Item) → (after_item h x).channel ≡ h.channel
after_channel h x = go (concerns h x) refl
  where
    go : (b : Bool) → concerns h x ≡ b → (after_item h x).channel ≡ h.channel
    go true e = rw e (met_channel h x)
    go false e = rw e refl

items_channel : (h : Held) (items : List Item) → (after_items h items).channel ≡ h.channel
items_channel h [] = refl
items_channel h (x ∷ later) = items_channel (after_item h x) later ∙ after_channel h x

-- an item of another channel
pub not_mine : (h : Held) (x : Item) → concerns h x ≡ false → after_item h x ≡ h
not_mine h x e = rw e refl

pub mine : (h : Held) (x : Item) → concerns h x ≡ true → after_item h x ≡ met h x
mine h x e = rw e refl

-- what is held for a channel is of that channel
pub own : (f : Format) (channel : ℕ) (items : List Item) → (held_in f channel items).channel.channel ≡ channel
own f channel items = ap (λ (c : Channel). c.channel) (items_channel (fresh (channel_in f channel)) items)
