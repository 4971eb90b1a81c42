-- A channel's records are those of its closed packets, and then those of its open one.
use Rattle.std.proofs.Common.{◌≡◌, ℕ, Bool, true, false, ◌&&◌, cond, eqb, eq-eqb, List, [], ◌∷◌, ◌++◌, refl, sym, ap, ◌∙◌, append_assoc}
use Rattle.std.proofs.lemmas.List.{append-nil}
use Rattle.ch11_builder.specs.Packet.{Numbered, Channel}
use Rattle.ch11_builder.specs.Cutting.{is_empty}
use Rattle.ch11_builder.specs.Held.{Held, fresh, fits, pushed, closed, with_record}
use Rattle.ch11_recording.specs.declared.item.Item.{Item}
use Rattle.ch11_recording.specs.declared.item.Item.TheVariants as item
use Rattle.ch11_recording.specs.Items.{channel_of, numbered, record_in, records_in, part_of, to_the_end}
use Rattle.ch11_recording.specs.WrittenFile.{Format, channel_in, concerns, closes, met, after_item, after_items, held_in, closed_behind}

pub kept_open : (h : Held) (n : Numbered) → fits h n ≡ true → pushed h n ≡ with_record h n
unfolding pushed
kept_open h n e = rw e refl

pub opened : (h : Held) (n : Numbered) → fits h n ≡ false → pushed h n ≡ with_record (closed h) n
unfolding pushed
opened h n e = rw e refl

-- what is closed by an item of the channel, and what is open then
met_keeps : (h : Held) (x : Item) (b : Bool) → closes h x ≡ b → cond b h.records [] ++ (met h x).records ≡ h.records ++ record_in x
met_keeps h (item.Message channel number message) b e = go (fits h (numbered number message)) refl
  where
    n : Numbered
    n = numbered number message

    go : (fit : Bool) → fits h n ≡ fit → cond b h.records [] ++ (pushed h n).records ≡ h.records ++ n ∷ []
    go true f = rw (← e, f, kept_open h n f) refl
    go false f = rw (← e, f, opened h n f) refl
met_keeps h (item.End channel) b e = go h.records refl
  where
    go : (ns : List Numbered) → h.records ≡ ns → cond b h.records [] ++ (cond (is_empty h.records) h (closed h)).records ≡ h.records ++ []
    go [] r = rw (← e, r) refl
    go (n ∷ ns) r = rw (← e, r) refl

pushed_channel : (h : Held) (n : Numbered) → (pushed h n).channel ≡ h.channel
pushed_channel h n = go (fits h n) refl
  where
    go : (fit : Bool) → fits h n ≡ fit → (pushed h n).channel ≡ h.channel
    go true f = rw (kept_open h n f) refl
    go false f = rw (opened h n f) refl

pub met_channel : (h : Held) (x : Item) → (met h x).channel ≡ h.channel
met_channel h (item.Message channel number message) = pushed_channel h (numbered number message)
met_channel h (item.End channel) = go h.records refl
  where
    go : (ns : List Numbered) → h.records ≡ ns → (cond (is_empty h.records) h (closed h)).channel ≡ h.channel
    go [] r = rw r refl
    go (n ∷ ns) r = rw r refl

pub after_channel : (h : Held) (x : Item) → (after_item h x).channel ≡ h.channel
after_channel h x = go (concerns h x) refl
  where
    go : (b : Bool) → concerns h x ≡ b → (after_item h x).channel ≡ h.channel
    go true e = rw e (met_channel h x)
    go false e = rw e refl

pub items_channel : (h : Held) (items : List Item) → (after_items h items).channel ≡ h.channel
items_channel h [] = refl
items_channel h (x ∷ later) = items_channel (after_item h x) later ∙ after_channel h x

-- an item of another channel
pub not_mine : (h : Held) (x : Item) → concerns h x ≡ false → after_item h x ≡ h
not_mine h x e = rw e refl

pub mine : (h : Held) (x : Item) → concerns h x ≡ true → after_item h x ≡ met h x
mine h x e = rw e refl

abbrev Keeps : Held → List Item → Type 0
Keeps h items = closed_behind h items ++ (after_items h items).records ≡ h.records ++ records_in h.channel.channel items

pub carried : {A B : Type 0} (P : A → B → Type 0) (a c : A) (b d : B) → a ≡ c → b ≡ d → P a b → P c d
carried P a c b d p q x = rw (← p, ← q) x

-- what is to show of an item, if it is of the channel and the channel holds k behind it
abbrev Keeping : Held → Item → List Item → Bool → Held → Type 0
Keeping h x later b k =
    (cond (b && closes h x) h.records [] ++ closed_behind k later) ++ (after_items k later).records
    ≡ h.records ++ (cond b (record_in x) [] ++ records_in h.channel.channel later)

kept_more : (h : Held) (x : Item) (later : List Item) (b : Bool) → concerns h x ≡ b → Keeps h later → Keeps (met h x) later → Keeps h (x ∷ later)
kept_more h x later false e same met_same =
    carried (Keeping h x later) false (concerns h x) h (after_item h x) (sym e) (sym (not_mine h x e)) same
kept_more h x later true e same met_same =
    let first : List Numbered = cond (closes h x) h.records [] in
    let rest : ℕ → List Numbered = λ (channel : ℕ). records_in channel later in
    let keeping : Keeping h x later true (met h x) =
    append_assoc first (closed_behind (met h x) later) (after_items (met h x) later).records
    ∙ ap (λ (ns : List Numbered). first ++ ns) met_same
    ∙ ap (λ (c : Channel). first ++ ((met h x).records ++ rest c.channel)) (met_channel h x)
    ∙ sym (append_assoc first (met h x).records (rest h.channel.channel))
    ∙ ap (λ (ns : List Numbered). ns ++ rest h.channel.channel) (met_keeps h x (closes h x) refl)
    ∙ append_assoc h.records (record_in x) (rest h.channel.channel) in
    carried (Keeping h x later) true (concerns h x) (met h x) (after_item h x) (sym e) (sym (mine h x e)) keeping

keeps_all : (h : Held) (items : List Item) → Keeps h items
keeps_all h [] = sym (append-nil h.records)
keeps_all h (x ∷ later) = kept_more h x later (concerns h x) refl (keeps_all h later) (keeps_all (met h x) later)

pub records_are_kept : (f : Format) (channel : ℕ) (items : List Item)
    → closed_behind (fresh (channel_in f channel)) items ++ (held_in f channel items).records ≡ records_in channel items
records_are_kept f channel items = keeps_all (fresh (channel_in f channel)) items

-- ---- a channel that has ended

part_records_more : (channel : ℕ) (x : Item) (later : List Item) (b : Bool) → eqb (channel_of x) channel ≡ b
    → records_in channel later ≡ records_in channel (part_of channel later) → records_in channel (x ∷ later) ≡ records_in channel (part_of channel (x ∷ later))
part_records_more channel x later true e same = rw (e, e) (ap (λ (ns : List Numbered). record_in x ++ ns) same)
part_records_more channel x later false e same = rw e same

part_records : (channel : ℕ) (items : List Item) → records_in channel items ≡ records_in channel (part_of channel items)
part_records channel [] = refl
part_records channel (x ∷ later) = part_records_more channel x later (eqb (channel_of x) channel) refl (part_records channel later)

part_held_more : (h : Held) (channel : ℕ) (x : Item) (later : List Item) (b : Bool) → eqb (channel_of x) channel ≡ b → h.channel.channel ≡ channel
    → after_items h later ≡ after_items h (part_of channel later)
    → after_items (after_item h x) later ≡ after_items (after_item h x) (part_of channel later)
    → after_items h (x ∷ later) ≡ after_items h (part_of channel (x ∷ later))
part_held_more h channel x later true e same without with_it = rw e with_it
part_held_more h channel x later false e same without with_it = rw (not_mine h x (ap (eqb (channel_of x)) same ∙ e), e) without

part_held : (h : Held) (channel : ℕ) (items : List Item) → h.channel.channel ≡ channel → after_items h items ≡ after_items h (part_of channel items)
part_held h channel [] same = refl
part_held h channel (x ∷ later) same =
    part_held_more h channel x later (eqb (channel_of x) channel) refl same (part_held h channel later same)
    (part_held (after_item h x) channel later (ap (λ (c : Channel). c.channel) (after_channel h x) ∙ same))

either_way : {A : Type 0} (b : Bool) (x : A) → cond b x x ≡ x
either_way true x = refl
either_way false x = refl

end_records : (channel : ℕ) (ns : List Numbered) → records_in channel (to_the_end channel ns) ≡ ns
end_records channel [] = append-nil _ ∙ either_way (eqb channel channel) []
end_records channel (n ∷ ns) = rw (eq-eqb channel channel refl) (ap (λ (ms : List Numbered). n ∷ ms) (end_records channel ns))

end_closes : (h : Held) (ns : List Numbered) → h.records ≡ ns → (cond (is_empty ns) h (closed h)).records ≡ []
end_closes h [] r = r
end_closes h (n ∷ ns) r = refl

end_held : (h : Held) (channel : ℕ) (ns : List Numbered) → h.channel.channel ≡ channel → (after_items h (to_the_end channel ns)).records ≡ []
end_held h channel [] same = rw (mine h (item.End channel) (eq-eqb channel h.channel.channel (sym same))) (end_closes h h.records refl)
end_held h channel (n ∷ ns) same =
    let x : Item = item.Message channel n.number n.message in
    end_held (after_item h x) channel ns (ap (λ (c : Channel). c.channel) (after_channel h x) ∙ same)

pub ended_is_closed : (f : Format) (channel : ℕ) (items : List Item) (ns : List Numbered) → part_of channel items ≡ to_the_end channel ns
    → closed_behind (fresh (channel_in f channel)) items ≡ ns
ended_is_closed f channel items ns is =
    let h : Held = fresh (channel_in f channel) in
    let none : (after_items h items).records ≡ [] =
    ap (λ (k : Held). k.records) (part_held h channel items refl) ∙ ap (λ (xs : List Item). (after_items h xs).records) is ∙ end_held h channel ns refl in
    sym (append-nil (closed_behind h items))
    ∙ ap (λ (ms : List Numbered). closed_behind h items ++ ms) (sym none)
    ∙ records_are_kept f channel items
    ∙ part_records channel items ∙ ap (records_in channel) is ∙ end_records channel ns
