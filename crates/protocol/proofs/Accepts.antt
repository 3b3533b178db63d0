-- Only one code says that a call of a site was accepted.
use Rattle.std.proofs.Common.{◌≡◌, true, sym, refl, ◌∙◌}
use Rattle.message.proofs.Refused.{refused_number}
use Rattle.protocol.specs.declared.Code.{Code}
use Rattle.protocol.specs.declared.Code.TheVariants.{Accepted, Requested, Refused}
use Rattle.protocol.specs.Codes.{accepted}

pub accepted_only : (c : Code) → accepted c ≡ true → c ≡ Accepted
accepted_only Accepted is = refl
accepted_only Requested is = cc
accepted_only (Refused refusal) is = let not_so = sym (refused_number refusal) ∙ is in cc
