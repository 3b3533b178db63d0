-- What calls one after another answer and leave.
use Rattle.std.specs.Prelude.{List, fold}
use Rattle.message.specs.Refusals.{Answer}
use Rattle.network.specs.Traffic.{Traffic, after_drop, after_put, drop_answer, put_answer}
use Rattle.network_client.specs.declared.Call.{Call}
use Rattle.network_client.specs.declared.Call.TheVariants.{Put, DropHead}

-- What one call answers.
abbrev pub call_answer : Traffic → Call → Answer
call_answer t (Put l m) = put_answer t l m
call_answer t (DropHead l) = drop_answer t l

-- The traffic after one call.
abbrev pub after_call : Traffic → Call → Traffic
after_call t (Put l m) = after_put t l m
after_call t (DropHead l) = after_drop t l

-- The traffic after calls, one after another.
abbrev pub after_calls : Traffic → List Call → Traffic
after_calls t calls = fold after_call t calls
