-- How a recording grows with one more item.
use Rattle.std.proofs.Common.{◌≡◌, ℕ, ◌&&◌, cond, List, [], ◌∷◌, ◌++◌, refl, sym, ap, ◌∙◌, append_assoc}
use Rattle.std.proofs.lemmas.List.{append-nil}
use Rattle.ch11_builder.specs.Packet.{Numbered}
use Rattle.ch11_builder.specs.Held.{Held}
use Rattle.ch11_recording.specs.declared.item.Item.{Item}
use Rattle.ch11_recording.specs.Items.{channel_of}
use Rattle.ch11_recording.specs.WrittenFile.{Format, concerns, closes, after_item, after_items, held_in, closing, packets_behind, written_file, closed_behind}

pub after_more : (h : Held) (items : List Item) (x : Item) → after_items h (items ++ x ∷ []) ≡ after_item (after_items h items) x
after_more h [] x = refl
after_more h (y ∷ items) x = after_more (after_item h y) items x

pub packets_more : (f : Format) (earlier items : List Item) (x : Item)
    → packets_behind f earlier (items ++ x ∷ []) ≡ packets_behind f earlier items ++ closing (held_in f (channel_of x) (earlier ++ items)) x
packets_more f earlier [] x = rw (append-nil earlier) (append-nil (closing (held_in f (channel_of x) earlier) x))
packets_more f earlier (y ∷ items) x =
    let first : List ℕ = closing (held_in f (channel_of y) earlier) y in
    let last : List Item → List ℕ = λ (xs : List Item). closing (held_in f (channel_of x) xs) x in
    ap (λ (bytes : List ℕ). first ++ bytes) (packets_more f (earlier ++ y ∷ []) items x)
    ∙ sym (append_assoc first (packets_behind f (earlier ++ y ∷ []) items) (last ((earlier ++ y ∷ []) ++ items)))
    ∙ ap (λ (xs : List Item). (first ++ packets_behind f (earlier ++ y ∷ []) items) ++ last xs) (append_assoc earlier (y ∷ []) items)

pub file_more : (f : Format) (prologue : List ℕ) (items : List Item) (x : Item)
    → written_file f prologue (items ++ x ∷ []) ≡ written_file f prologue items ++ closing (held_in f (channel_of x) items) x
unfolding written_file
file_more f prologue items x =
    ap (λ (bytes : List ℕ). prologue ++ bytes) (packets_more f [] items x)
    ∙ sym (append_assoc prologue (packets_behind f [] items) (closing (held_in f (channel_of x) items) x))

-- the records that one more item closes
pub closed_more : (h : Held) (items : List Item) (x : Item)
    → closed_behind h (items ++ x ∷ []) ≡ closed_behind h items ++ cond (concerns (after_items h items) x && closes (after_items h items) x) (after_items h items).records []
closed_more h [] x = append-nil (cond (concerns h x && closes h x) h.records [])
closed_more h (y ∷ items) x =
    let first = cond (concerns h y && closes h y) h.records [] in
    ap (λ (ns : List Numbered). first ++ ns) (closed_more (after_item h y) items x)
    ∙ sym (append_assoc first (closed_behind (after_item h y) items) (cond (concerns (after_items (after_item h y) items) x && closes (after_items (after_item h y) items) x) (after_items (after_item h y) items).records []))
