-- What is kept of slots, one behind the other.
use Rattle.std.proofs.Common.{◌≡◌, ℕ, zero, suc, ◌+◌, ◌*◌, ◌<◌, ◌≤◌, List, [], ◌∷◌, ◌++◌, refl, sym, ap, ◌∙◌, arith, length, drop, get_or, length-append, length-drop, zero-le}
use Rattle.std.proofs.lemmas.List.{append-nil, append_assoc, drop_all, drop_more, length-take, length-take-le}
use Rattle.mil_terminal.specs.Slots.{slots, entry, entries}
use Rattle.mil_terminal.proofs.SlotLemmas.{slots_at}

-- a slot holds no more words than it has places
pub slots_few : (counts words : List ℕ) → ((i : ℕ) → i < length counts → get_or counts i 0 ≤ 32) → (i : ℕ) → length (get_or (slots counts words) i []) ≤ 32
slots_few [] words small i = zero-le
slots_few (n ∷ counts) words small zero =
    let few : n ≤ 32 = small 0 (omega arith) in
    omega (arith, length-take n words)
slots_few (n ∷ counts) words small (suc i) = slots_few counts (drop 32 words) (λ k lt. small (suc k) (omega arith)) i

-- a slot holds as many words as its count says
pub length-slot : (counts words : List ℕ) (i : ℕ) → i < length counts → 32 * length counts ≤ length words → get_or counts i 0 ≤ 32
    → length (get_or (slots counts words) i []) ≡ get_or counts i 0
length-slot counts words i lt long few =
    ap length (slots_at counts words i [] lt) ∙ length-take-le (get_or counts i 0) (drop (32 * i) words) (omega (arith, length-drop (32 * i) words))

length-entry_none : (slot : ℕ) (words : List ℕ) → length words ≡ 0 → length (entry slot words) ≡ 0
length-entry_none slot [] none = refl
length-entry_none slot (word ∷ words) none = absurd (omega arith)

length-entry_some : (slot : ℕ) (words : List ℕ) → 0 < length words → length (entry slot words) ≡ 1 + length words
length-entry_some slot [] some = absurd (omega arith)
length-entry_some slot (word ∷ words) some = omega arith

entries-more : (lists : List (List ℕ)) (i : ℕ) → i < length lists → entries i (drop i lists) ≡ entry i (get_or lists i []) ++ entries (i + 1) (drop (i + 1) lists)
entries-more lists i lt = ap (λ (ls : List (List ℕ)). entries i ls) (drop_more lists i [] lt)

length-entries_more : (lists : List (List ℕ)) (i : ℕ) → i < length lists
    → length (entries i (drop i lists)) ≡ length (entry i (get_or lists i [])) + length (entries (i + 1) (drop (i + 1) lists))
length-entries_more lists i lt =
    ap length (entries-more lists i lt) ∙ length-append (entry i (get_or lists i [])) (entries (i + 1) (drop (i + 1) lists))

-- how much is kept of the slots so far and of the others is how much is kept of all, after an empty slot
pub len-none : (lists : List (List ℕ)) (i n len : ℕ) → i < length lists → length (get_or lists i []) ≡ n → n ≤ 0
    → len + length (entries i (drop i lists)) ≡ length (entries 0 lists) → len + length (entries (i + 1) (drop (i + 1) lists)) ≡ length (entries 0 lists)
len-none lists i n len lt n_is none is =
    let nothing : length (entry i (get_or lists i [])) ≡ 0 = length-entry_none i (get_or lists i []) (omega arith) in
    omega (arith, length-entries_more lists i lt)

-- after one that holds words
pub len-some : (lists : List (List ℕ)) (i n len : ℕ) → i < length lists → length (get_or lists i []) ≡ n → 0 < n
    → len + length (entries i (drop i lists)) ≡ length (entries 0 lists) → len + (1 + n) + length (entries (i + 1) (drop (i + 1) lists)) ≡ length (entries 0 lists)
len-some lists i n len lt n_is some is =
    let something : length (entry i (get_or lists i [])) ≡ 1 + length (get_or lists i []) = length-entry_some i (get_or lists i []) (omega arith) in
    omega (arith, length-entries_more lists i lt)

-- and after all
pub len-all : (lists : List (List ℕ)) (i len : ℕ) → length lists ≤ i → len + length (entries i (drop i lists)) ≡ length (entries 0 lists) → len ≡ length (entries 0 lists)
len-all lists i len le is =
    let nothing : length (entries i (drop i lists)) ≡ 0 = ap (λ (ls : List (List ℕ)). length (entries i ls)) (drop_all i lists le) in
    omega arith

-- a head and words behind what was kept
pub entry-put : (kept words : List ℕ) (slot head : ℕ) → 0 < length words → head ≡ 64 * slot + length words → (kept ++ head ∷ []) ++ words ≡ kept ++ entry slot words
entry-put kept [] slot head some is = absurd (omega arith)
entry-put kept (word ∷ words) slot head some is = append_assoc kept (head ∷ []) (word ∷ words) ∙ ap (λ (n : ℕ). kept ++ n ∷ word ∷ words) is

-- nothing of an empty slot
pub entry-none : (kept words : List ℕ) (slot : ℕ) → length words ≡ 0 → kept ≡ kept ++ entry slot words
entry-none kept [] slot none = sym (append-nil kept)
entry-none kept (word ∷ words) slot none = absurd (omega arith)

-- what is kept of the slots so far and of the others is what is kept of all, after one slot more
pub packed-more : (lists : List (List ℕ)) (i : ℕ) (kept now words : List ℕ) → i < length lists → words ≡ get_or lists i [] → now ≡ kept ++ entry i words
    → kept ++ entries i (drop i lists) ≡ entries 0 lists → now ++ entries (i + 1) (drop (i + 1) lists) ≡ entries 0 lists
packed-more lists i kept now words lt words_is now_is is =
    ap (λ (ys : List ℕ). ys ++ entries (i + 1) (drop (i + 1) lists)) (now_is ∙ ap (λ (ws : List ℕ). kept ++ entry i ws) words_is)
    ∙ append_assoc kept (entry i (get_or lists i [])) (entries (i + 1) (drop (i + 1) lists))
    ∙ ap (λ (ys : List ℕ). kept ++ ys) (sym (entries-more lists i lt))
    ∙ is

-- and behind the last
pub packed-all : (lists : List (List ℕ)) (i : ℕ) (kept : List ℕ) → length lists ≤ i → kept ++ entries i (drop i lists) ≡ entries 0 lists → kept ≡ entries 0 lists
packed-all lists i kept le is =
    sym (append-nil kept) ∙ ap (λ (ls : List (List ℕ)). kept ++ entries i ls) (sym (drop_all i lists le)) ∙ is
