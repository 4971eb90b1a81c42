-- A message as numbers: its form, its command words and the data words that the controller sends.
use Rattle.std.specs.Prelude.{ℕ, List, ◌==◌, Option, Some, None, unwrap_or, if◌then◌else◌}
use Rattle.std.specs.Option.{option_or}
use Rattle.mil_word.specs.Fields.{address_of, sub_of, code_of, count_of}
use Rattle.mil_message.specs.declared.drafts.ModeSubaddress.{ModeSubaddress}
use Rattle.mil_message.specs.declared.drafts.ModeSubaddress.TheVariants.{Zero, ThirtyOne}
use Rattle.mil_message.specs.declared.forms.Form.{Form}
use Rattle.mil_message.specs.Forms.{form_number, first_command, second_command, data_words}
use Rattle.mil_message.specs.Request.{Request, to_terminal, from_terminal, between, mode, mode_from, mode_to, to_all}
use Rattle.mil_message.specs.Request.{between_all, mode_all, mode_all_to}

pub record Parts : Type 0 where
  pub number : ℕ
  pub first : ℕ
  -- 0 where there is no second command
  pub second : ℕ
  pub words : List ℕ

abbrev pub parts_of : Form → Parts
parts_of form = record {
  number = form_number form;
  first = first_command form;
  second = unwrap_or (second_command form) 0;
  words = data_words form;
}

abbrev mode_subaddress_of : ℕ → ModeSubaddress
mode_subaddress_of subaddress = if subaddress == 0 then Zero else ThirtyOne

-- the one request for a transfer of data whose message can have these parts
abbrev pub transfer_at : Parts → Option Request
transfer_at p =
    let address = address_of p.first in
    let subaddress = sub_of p.first in
    let count = count_of p.first in
    let sender = address_of p.second in
    let sender_subaddress = sub_of p.second in
    if p.number == 0 then Some (to_terminal address subaddress p.words)
    else if p.number == 1 then Some (from_terminal address subaddress count)
    else if p.number == 2 then Some (between sender sender_subaddress address subaddress count)
    else if p.number == 6 then Some (to_all subaddress p.words)
    else if p.number == 7 then Some (between_all sender sender_subaddress subaddress count)
    else None

-- the one request for a mode command whose message can have this number of its form, this first command and these words
abbrev pub mode_command_at : ℕ → ℕ → List ℕ → Option Request
mode_command_at number first words =
    let address = address_of first in
    let subaddress = mode_subaddress_of (sub_of first) in
    let code = code_of first in
    if number == 3 then Some (mode address subaddress code None)
    else if number == 4 then Some (mode_from address subaddress code None)
    else if number == 5 then Some (mode_to address subaddress code (Some words))
    else if number == 8 then Some (mode_all subaddress code None)
    else if number == 9 then Some (mode_all_to subaddress code (Some words))
    else None

-- the one request whose message can have these parts
abbrev pub request_at : Parts → Option Request
request_at p = option_or (transfer_at p) (mode_command_at p.number p.first p.words)
