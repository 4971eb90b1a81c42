-- The line that ends a session.
use Rattle.std.proofs.Common.{◌≡◌, List, [], ◌∷◌, ◌++◌, refl, ap}
use Rattle.std.specs.Prelude.{Bool, true, false, ◌||◌}
use Rattle.text_lines.specs.Words.{Text}
use Rattle.replay.specs.Moves.{ReplayState}
use Rattle.bench_step.specs.Commands.{Asked, forward, back, go, go_time, seek, find, find_back, select, select_back, state, show, show_at, help, quit, no_condition, unknown, asked}
use Rattle.bench_step.specs.Session.{Replies, is_end}
use Rattle.bench_step.specs.Answering.{is_quit, up_to_quit, any_quit}
use Rattle.bench_step.specs.declared.manners.Manner.{Manner}
use Rattle.bench_step.specs.declared.replies.Reply.{Reply}
use Rattle.bench_step.specs.declared.replies.Reply.TheVariants as reply

-- only the line that asks for the end is answered by it
end_of : (s : ReplayState) (a : Asked) → Replies s a reply.Quit → is_quit a ≡ true
end_of s (forward n) h = absurd h
end_of s (back n) h = absurd h
end_of s (go n) h = absurd h
end_of s (go_time ticks) h = absurd h
end_of s (seek sought n) h = absurd h
end_of s (find test) h = absurd h
end_of s (find_back test) h = absurd h
end_of s (select selector) h = absurd h
end_of s (select_back selector) h = absurd h
end_of s (state detail) h = absurd h
end_of s show h = absurd h
end_of s (show_at n) h = absurd h
end_of s help h = absurd h
end_of s quit h = refl
end_of s no_condition h = absurd h
end_of s unknown h = absurd h

-- another reply is one to another line
other_reply : (s : ReplayState) (a : Asked) (r : Reply) → is_end r ≡ false → Replies s a r → is_quit a ≡ false
other_reply s (forward n) r other h = refl
other_reply s (back n) r other h = refl
other_reply s (go n) r other h = refl
other_reply s (go_time ticks) r other h = refl
other_reply s (seek sought n) r other h = refl
other_reply s (find test) r other h = refl
other_reply s (find_back test) r other h = refl
other_reply s (select selector) r other h = refl
other_reply s (select_back selector) r other h = refl
other_reply s (state detail) r other h = refl
other_reply s show r other h = refl
other_reply s (show_at n) r other h = refl
other_reply s help r other h = refl
other_reply s quit (reply.At n) other h = absurd h
other_reply s quit (reply.Refused e) other h = absurd h
other_reply s quit (reply.Shown detail) other h = absurd h
other_reply s quit (reply.Message n) other h = absurd h
other_reply s quit reply.Help other h = absurd h
other_reply s quit reply.Quit other h = cc
other_reply s quit reply.Unknown other h = absurd h
other_reply s no_condition r other h = refl
other_reply s unknown r other h = refl

pub end_is : (s : ReplayState) (a : Asked) (r : Reply) → Replies s a r → is_quit a ≡ is_end r
end_is s a (reply.At n) h = other_reply s a (reply.At n) refl h
end_is s a (reply.Refused e) h = other_reply s a (reply.Refused e) refl h
end_is s a (reply.Shown detail) h = other_reply s a (reply.Shown detail) refl h
end_is s a (reply.Message n) h = other_reply s a (reply.Message n) refl h
end_is s a reply.Help h = other_reply s a reply.Help refl h
end_is s a reply.Quit h = end_of s a h
end_is s a reply.Unknown h = other_reply s a reply.Unknown refl h

-- one more line, which does not end it
pub one_more_quit : (manner : Manner) (lines : List Text) (line : Text) → any_quit manner lines ≡ false → is_quit (asked manner line) ≡ false → any_quit manner (lines ++ line ∷ []) ≡ false
one_more_quit manner [] line none other = rw other refl
one_more_quit manner (l ∷ ls) line none other = by (is_quit (asked manner l)) refl none (λ left. one_more_quit manner ls line left other)
  where
    by : (b : Bool) → is_quit (asked manner l) ≡ b → (b || any_quit manner ls) ≡ false → (any_quit manner ls ≡ false → any_quit manner (ls ++ line ∷ []) ≡ false)
        → any_quit manner ((l ∷ ls) ++ line ∷ []) ≡ false
    by true is none rest = cc
    by false is none rest = rw is (rest none)

-- the last line ends it
pub last_quits : (manner : Manner) (lines : List Text) (line : Text) → is_quit (asked manner line) ≡ true → any_quit manner (lines ++ line ∷ []) ≡ false → ⊥
last_quits manner [] line here none = let wrong : true ≡ false = (rw here at none) in cc
last_quits manner (l ∷ ls) line here none = by (is_quit (asked manner l)) none (λ left. last_quits manner ls line here left)
  where
    by : (b : Bool) → (b || any_quit manner (ls ++ line ∷ [])) ≡ false → (any_quit manner (ls ++ line ∷ []) ≡ false → ⊥) → ⊥
    by true none rest = cc
    by false none rest = rest none

-- the lines up to the first that ends it, where that is the last of these
pub all_to_quit : (manner : Manner) (lines : List Text) (line : Text) (rest : List Text) → any_quit manner lines ≡ false → is_quit (asked manner line) ≡ true
    → up_to_quit manner ((lines ++ line ∷ []) ++ rest) ≡ lines ++ line ∷ []
all_to_quit manner [] line rest none here = rw here refl
all_to_quit manner (l ∷ ls) line rest none here = by (is_quit (asked manner l)) refl none (λ left. all_to_quit manner ls line rest left here)
  where
    by : (b : Bool) → is_quit (asked manner l) ≡ b → (b || any_quit manner ls) ≡ false → (any_quit manner ls ≡ false → up_to_quit manner ((ls ++ line ∷ []) ++ rest) ≡ ls ++ line ∷ [])
        → up_to_quit manner (((l ∷ ls) ++ line ∷ []) ++ rest) ≡ (l ∷ ls) ++ line ∷ []
    by true is none later = cc
    by false is none later = rw is (ap (λ (xs : List Text). l ∷ xs) (later none))

-- where none ends it, these are all lines
pub none_quits : (manner : Manner) (lines : List Text) → any_quit manner lines ≡ false → up_to_quit manner lines ≡ lines
none_quits manner [] none = refl
none_quits manner (l ∷ ls) none = by (is_quit (asked manner l)) refl none (none_quits manner ls)
  where
    by : (b : Bool) → is_quit (asked manner l) ≡ b → (b || any_quit manner ls) ≡ false → (any_quit manner ls ≡ false → up_to_quit manner ls ≡ ls) → up_to_quit manner (l ∷ ls) ≡ l ∷ ls
    by true is none rest = cc
    by false is none rest = rw is (ap (λ (xs : List Text). l ∷ xs) (rest none))
