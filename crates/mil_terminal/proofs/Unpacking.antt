-- Slots put back from what was kept of them.
use Rattle.std.proofs.Common.{◌≡◌, ℕ, ◌+◌, ◌*◌, ◌/◌, ◌%◌, ◌<◌, ◌≤◌, List, [], ◌∷◌, ◌++◌, refl, sym, ap, ◌∙◌, arith, length, take, drop, get_or, set, replicate, length-append}
use Rattle.std.proofs.lemmas.List.{append_assoc, drop_at, get_or_at, length_push, set_at, take_at}
use Rattle.mil_terminal.specs.Slots.{entries}

-- those in front are put back, and what was kept of those behind is left
pub record IsLeft (rest : List ℕ) (saved now : List (List ℕ)) : Type 0 where
  pub front : List (List ℕ)
  pub behind : List (List ℕ)
  pub whole : saved ≡ front ++ behind
  pub back : now ≡ front ++ replicate (length behind) []
  pub left : rest ≡ entries (length front) behind

-- a head, and all that follows it, are such that its slot can be put back
pub record IsNext (head : ℕ) (more : List ℕ) (saved now : List (List ℕ)) : Type 0 where
  pub slot : head / 64 < length saved
  pub count : head % 64 ≤ length more
  pub few : head % 64 ≤ 32
  pub rest : IsLeft (drop (head % 64) more) saved (set now (head / 64) (take (head % 64) more))

-- none is put back yet
pub all-left : (rest : List ℕ) (saved now : List (List ℕ)) (n : ℕ) → rest ≡ entries 0 saved → now ≡ replicate n [] → length saved ≡ n → IsLeft rest saved now
all-left rest saved now n rest_is now_is long = record {
  front = [];
  behind = saved;
  whole = refl;
  back = now_is ∙ ap (λ (k : ℕ). replicate k []) (sym long);
  left = rest_is;
}

-- one more
put_back : (front behind saved now : List (List ℕ)) (words more : List ℕ) (slot n : ℕ) → length front ≡ slot → length words ≡ n
    → saved ≡ front ++ words ∷ behind → now ≡ front ++ [] ∷ replicate (length behind) [] → more ≡ words ++ entries (slot + 1) behind
    → IsLeft (drop n more) saved (set now slot (take n more))
put_back front behind saved now words more slot n slot_is n_is whole back more_is = record {
  front = front ++ words ∷ [];
  behind = behind;
  whole = whole ∙ sym (append_assoc front (words ∷ []) behind);
  back = ap (λ (lists : List (List ℕ)). set lists slot (take n more)) back
      ∙ set_at front [] (replicate (length behind) []) (take n more) slot slot_is
      ∙ ap (λ (ws : List ℕ). front ++ ws ∷ replicate (length behind) []) (ap (λ (ws : List ℕ). take n ws) more_is ∙ take_at words (entries (slot + 1) behind) n n_is)
      ∙ sym (append_assoc front (words ∷ []) (replicate (length behind) []));
  left = ap (λ (ws : List ℕ). drop n ws) more_is
      ∙ drop_at words (entries (slot + 1) behind) n n_is
      ∙ ap (λ (k : ℕ). entries k behind) (sym (length_push front words ∙ ap (λ (k : ℕ). k + 1) slot_is));
}

-- what a head says
slot_of : (slot n head : ℕ) → n ≤ 32 → head ≡ 64 * slot + n → head / 64 ≡ slot
slot_of slot n head few is = omega arith

count_of : (slot n head : ℕ) → n ≤ 32 → head ≡ 64 * slot + n → head % 64 ≡ n
count_of slot n head few is = omega arith

-- the first head that is left stands for the first slot that is not empty
next_of : (front behind saved now : List (List ℕ)) (slot head : ℕ) (more : List ℕ) → ((i : ℕ) → length (get_or saved i []) ≤ 32) → length front ≡ slot
    → saved ≡ front ++ behind → now ≡ front ++ replicate (length behind) [] → head ∷ more ≡ entries slot behind → IsNext head more saved now
next_of front [] saved now slot head more few slot_is whole back left = cc
next_of front ([] ∷ behind) saved now slot head more few slot_is whole back left =
    next_of (front ++ [] ∷ []) behind saved now (slot + 1) head more few
    (length_push front [] ∙ ap (λ (k : ℕ). k + 1) slot_is)
    (whole ∙ sym (append_assoc front ([] ∷ []) behind))
    (back ∙ sym (append_assoc front ([] ∷ []) (replicate (length behind) [])))
    left
next_of front ((word ∷ words) ∷ behind) saved now slot head more few slot_is whole back left =
    let head_is : head ≡ 64 * slot + length (word ∷ words) = cc in
    let more_is : more ≡ (word ∷ words) ++ entries (slot + 1) behind = cc in
    let is_few : length (word ∷ words) ≤ 32 =
    omega (arith, few slot, ap length (ap (λ (lists : List (List ℕ)). get_or lists slot []) whole ∙ get_or_at front (word ∷ words) behind [] slot slot_is)) in
    let at : head / 64 ≡ slot = slot_of slot (length (word ∷ words)) head is_few head_is in
    let count : head % 64 ≡ length (word ∷ words) = count_of slot (length (word ∷ words)) head is_few head_is in
    record {
      slot = omega (arith, ap length whole, length-append front ((word ∷ words) ∷ behind));
      count = omega (arith, ap length more_is, length-append (word ∷ words) (entries (slot + 1) behind));
      few = omega arith;
      rest = put_back front behind saved now (word ∷ words) more (head / 64) (head % 64) (slot_is ∙ sym at) (sym count) whole back
          (more_is ∙ ap (λ (k : ℕ). (word ∷ words) ++ entries (k + 1) behind) (sym at));
    }

pub next-left : (rest : List ℕ) (saved now : List (List ℕ)) (head : ℕ) (more : List ℕ) → ((i : ℕ) → length (get_or saved i []) ≤ 32) → rest ≡ head ∷ more
    → IsLeft rest saved now → IsNext head more saved now
next-left rest saved now head more few rest_is is =
    next_of is.front is.behind saved now (length is.front) head more few refl is.whole is.back (sym rest_is ∙ is.left)

-- one more, as the slices give it
pub left-more : (head n slot : ℕ) (more words others : List ℕ) (saved lists now : List (List ℕ)) → n ≡ head % 64 → slot ≡ head / 64 → words ≡ take n more → others ≡ drop n more
    → now ≡ set lists slot words → IsNext head more saved lists → IsLeft others saved now
left-more head n slot more words others saved lists now n_is slot_is words_is others_is now_is is =
    rw now_is (rw words_is (rw others_is (rw n_is (rw slot_is is.rest))))

-- nothing is kept of empty slots alone
none_kept : (lists : List (List ℕ)) (slot : ℕ) → [] ≡ entries slot lists → replicate (length lists) [] ≡ lists
none_kept [] slot none = refl
none_kept ([] ∷ lists) slot none = ap (λ (ls : List (List ℕ)). [] ∷ ls) (none_kept lists (slot + 1) none)
none_kept ((word ∷ words) ∷ lists) slot none = cc

no_words : (rest : List ℕ) → length rest ≡ 0 → [] ≡ rest
no_words [] none = refl
no_words (word ∷ rest) none = absurd (omega arith)

-- all
pub none-left : (rest : List ℕ) (saved now : List (List ℕ)) → length rest ≡ 0 → IsLeft rest saved now → now ≡ saved
none-left rest saved now none is =
    is.back ∙ ap (λ (lists : List (List ℕ)). is.front ++ lists) (none_kept is.behind (length is.front) (no_words rest none ∙ is.left)) ∙ sym is.whole
