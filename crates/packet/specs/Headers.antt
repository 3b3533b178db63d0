-- What the inner functions say of headers. No public promise rests on this page.
use Rattle.std.specs.Prelude.{◌≡◌, ℕ, Some, None, Ok, Err, Option, Result, ◌==◌, option_map, IfOk}
use Rattle.message.specs.declared.kinds.Kind.{Kind}
use Rattle.message.specs.declared.refusals.Refusal.{Refusal}
use Rattle.message.specs.declared.refusals.Refusal.TheVariants.{UnknownOpcode, WrongLength}
use Rattle.message.specs.Checks.{given}
use Rattle.message.specs.Kinds.{kind_of, words_of}
use Rattle.packet.specs.declared.Packet.{Packet}
use Rattle.packet.specs.declared.fields.Header.{Header}
use Rattle.packet.specs.Layout.{header, opcode_in, length_in, source_in}

-- The judgement of a header once its opcode is known: it is that of a kind, and the length is the kind's.
abbrev pub header_as : Option Kind → ℕ → Result Header Refusal
header_as None head = Err UnknownOpcode
header_as (Some k) head = given (length_in head == words_of k) (Err WrongLength) (Ok (record { kind = k; source = source_in head }))

-- The header that a word is, or what is wrong with it.
abbrev pub header_in : ℕ → Result Header Refusal
header_in head = header_as (kind_of (opcode_in head)) head

-- What reading a header answers: the header that the word is, whose kind is that of the opcode and whose fields make the word
-- again, or what is wrong with the word.
pub record ReadsHeader (head : ℕ) (answer : Result Header Refusal) : Type 0 where
  pub value : answer ≡ header_in head
  pub kind : IfOk answer (λ h. kind_of (opcode_in head) ≡ Some h.kind)
  pub back : IfOk answer (λ h. header h.kind h.source ≡ head)

-- The header of a packet, where its opcode is that of a kind.
abbrev pub header_of : Packet → Option Header
header_of p = option_map (λ k. record { kind = k; source = p.source }) (kind_of p.message.opcode)
