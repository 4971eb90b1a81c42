-- A channel's history, message by message.
use Rattle.std.proofs.Common.{◌≡◌, List, [], ◌∷◌, ◌++◌, reverse, refl, sym, ap, subst, ◌∙◌, append_assoc}
use Rattle.std.proofs.lemmas.List.{append-nil, reverse-append, reverse-reverse}
use Rattle.ch11_layout.specs.Stamps.{Recorded}

-- what holds of the messages past, newest first; these and the rest are all
pub record IsAlong (P : List Recorded → Type 0) (all rest : List Recorded) : Type 0 where
  pub past : List Recorded
  pub holds : P past
  pub split : reverse past ++ rest ≡ all

pub begins : (P : List Recorded → Type 0) (all : List Recorded) → P [] → IsAlong P all all
begins P all is = record { past = []; holds = is; split = refl }

pub goes_on : (P Q : List Recorded → Type 0) (all rest others : List Recorded) (m : Recorded) → IsAlong P all rest → rest ≡ m ∷ others
    → ((history : List Recorded) → P history → Q (m ∷ history)) → IsAlong Q all others
goes_on P Q all rest others m g is noted = record {
  past = m ∷ g.past;
  holds = noted g.past g.holds;
  split = ap (λ (l : List Recorded). l ++ others) (reverse-append (m ∷ []) g.past) ∙ append_assoc (reverse g.past) (m ∷ []) others ∙ ap (λ (l : List Recorded). reverse g.past ++ l) (sym is) ∙ g.split;
}

pub ends : (P : List Recorded → Type 0) (all rest : List Recorded) → IsAlong P all rest → rest ≡ [] → P (reverse all)
ends P all rest g none =
    let whole : reverse g.past ≡ all = sym (append-nil (reverse g.past)) ∙ ap (λ (l : List Recorded). reverse g.past ++ l) (sym none) ∙ g.split in
    subst P (sym (reverse-reverse g.past) ∙ ap reverse whole) g.holds
