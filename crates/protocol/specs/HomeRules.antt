-- What the home does with a message about record r from terminal t, rule by rule; v is the value that it carries.
use Rattle.std.specs.Prelude.{ℕ, ◌-◌, Bool, cond, not, Some, None, Option, ◌==◌, nat_lt, is_ok}
use Rattle.message.specs.declared.refusals.Refusal.TheVariants.{Full, OutOfTurn}
use Rattle.message.specs.declared.kinds.Kind.{Kind}
use Rattle.message.specs.declared.kinds.Kind.TheVariants.{ReadRequest, WriteRequest, Replacement, Update, Acknowledgement, ReadData, WriteData, Invalidate, Busy}
use Rattle.message.specs.Checks.{given}
use Rattle.message.specs.Messages.{message_of}
use Rattle.directory.specs.Sets.{tally}
use Rattle.directory.specs.Directories.{View, count}
use Rattle.directory.specs.Changes.{add_answer, added, emptied}
use Rattle.directory_client.specs.Clients.{alone, only_holder}
use Rattle.protocol.specs.declared.Entry.{Entry}
use Rattle.protocol.specs.declared.HomeState.{HomeState}
use Rattle.protocol.specs.declared.HomeState.TheVariants.{ReadOnly, ReadWrite, ReadTransaction, WriteTransaction}
use Rattle.protocol.specs.Sends.{has_room, sent, each_has_room, sent_to_each, besides}
use Rattle.protocol.specs.Scenes.{Scene, Ruling, refuses, accepts}

-- An entry.
abbrev pub entry_of : HomeState → ℕ → ℕ → Entry
entry_of state value awaited = record { state = state; value = value; awaited = awaited }

-- The entry in another state.
abbrev pub in_state : HomeState → Entry → Entry
in_state state entry = entry_of state entry.value entry.awaited

-- How many terminals hold the record besides t.
abbrev pub others : View → ℕ → ℕ → ℕ
others directory r t = tally (besides (directory.holders r) t) 64

-- Are all holders of the record below n? As many are as there are at all.
abbrev pub all_holders_below : ℕ → View → ℕ → Bool
all_holders_below n directory r = tally (directory.holders r) n == (count directory r)

-- A terminal, if it is below n.
abbrev pub if_below : ℕ → Option ℕ → Option ℕ
if_below n None = None
if_below n (Some i) = cond (nat_lt i n) (Some i) None

-- The holder of the record, where there is exactly one, and it is a terminal of the site. In Read-Write it is the owner; in
-- a transaction it is the requester, for whom the transaction runs.
abbrev pub sole_holder : Scene → ℕ → Option ℕ
sole_holder s r = if_below s.terminals (only_holder s.directory r)

-- Read-Only, read request: the terminal joins the holders and gets the value; where the directory refuses, it is told that the
-- home is busy.
abbrev pub read_granted : Scene → ℕ → ℕ → Ruling
read_granted s r t =
    given (has_room s.down t) (refuses Full)
    (cond (is_ok (add_answer s.directory r t))
    (accepts s.entry (added s.directory r t).holders (sent s.down.waiting t (message_of ReadData r s.entry.value)))
    (accepts s.entry (added s.directory r t).holders (sent s.down.waiting t (message_of Busy r 0))))

-- Read-Only, write request, no holder but the terminal: it holds the record alone, in Read-Write, and gets the value.
abbrev pub write_unshared : Scene → ℕ → ℕ → Ruling
write_unshared s r t =
    given (has_room s.down t) (refuses Full)
    (accepts
    (in_state ReadWrite s.entry)
    (alone s.directory.holders r t)
    (sent s.down.waiting t (message_of WriteData r s.entry.value)))

-- Read-Only, write request, other holders: each of these is told to invalidate its copy, as many acknowledgements are awaited,
-- and the terminal holds the record alone, in a Write-Transaction.
abbrev pub write_shared : Scene → ℕ → ℕ → Ruling
write_shared s r t =
    given (all_holders_below s.terminals s.directory r) (refuses OutOfTurn)
    (given (each_has_room s.down (besides (s.directory.holders r) t) s.terminals) (refuses Full)
    (accepts
    (entry_of WriteTransaction s.entry.value (others s.directory r t))
    (alone s.directory.holders r t)
    (sent_to_each s.down.waiting (besides (s.directory.holders r) t) s.terminals (message_of Invalidate r 0))))

-- Read-Write, request from another than the holder: the holder is told to invalidate its copy, one acknowledgement is awaited,
-- and the terminal holds the record alone, in a transaction.
abbrev pub recalled_from : Option ℕ → HomeState → Scene → ℕ → ℕ → Ruling
recalled_from None transaction s r t = refuses OutOfTurn
recalled_from (Some i) transaction s r t =
    given (not (i == t)) (refuses OutOfTurn)
    (given (has_room s.down i) (refuses Full)
    (accepts
    (entry_of transaction s.entry.value 1)
    (alone s.directory.holders r t)
    (sent s.down.waiting i (message_of Invalidate r 0))))

abbrev pub recalled : HomeState → Scene → ℕ → ℕ → Ruling
recalled transaction s r t = recalled_from (sole_holder s r) transaction s r t

-- Read-Write, replacement from the holder: the value comes home, and nobody holds the record.
abbrev pub replaced_by : Option ℕ → Scene → ℕ → ℕ → ℕ → Ruling
replaced_by None s r t v = refuses OutOfTurn
replaced_by (Some i) s r t v =
    given (i == t) (refuses OutOfTurn)
    (accepts (entry_of ReadOnly v s.entry.awaited) (emptied s.directory.holders r) s.down.waiting)

abbrev pub replaced : Scene → ℕ → ℕ → ℕ → Ruling
replaced s r t v = replaced_by (sole_holder s r) s r t v

-- A transaction runs, request: the terminal is told that the home is busy.
abbrev pub turned_away : Scene → ℕ → ℕ → Ruling
turned_away s r t =
    given (has_room s.down t) (refuses Full)
    (accepts s.entry s.directory.holders (sent s.down.waiting t (message_of Busy r 0)))

-- A transaction runs, replacement: its value is kept.
abbrev pub value_kept : Scene → ℕ → Ruling
value_kept s v = accepts (entry_of s.entry.state v s.entry.awaited) s.directory.holders s.down.waiting

-- One acknowledgement of several has come.
abbrev pub counted_down : Scene → Ruling
counted_down s =
    accepts (entry_of s.entry.state s.entry.value (s.entry.awaited - 1)) s.directory.holders s.down.waiting

-- The last acknowledgement or update has come, and v is the value: the requester gets it, and the transaction ends.
abbrev pub finished_for : Option ℕ → HomeState → Kind → Scene → ℕ → ℕ → Ruling
finished_for None next reply s r v = refuses OutOfTurn
finished_for (Some i) next reply s r v =
    given (has_room s.down i) (refuses Full)
    (accepts (entry_of next v 0) s.directory.holders (sent s.down.waiting i (message_of reply r v)))

-- Only where one acknowledgement is awaited.
abbrev pub finished : HomeState → Kind → Scene → ℕ → ℕ → Ruling
finished next reply s r v =
    given (s.entry.awaited == 1) (refuses OutOfTurn)
    (finished_for (sole_holder s r) next reply s r v)

-- A read request, in each state.
abbrev pub read_requested : HomeState → Scene → ℕ → ℕ → Ruling
read_requested ReadOnly s r t = read_granted s r t
read_requested ReadWrite s r t = recalled ReadTransaction s r t
read_requested ReadTransaction s r t = turned_away s r t
read_requested WriteTransaction s r t = turned_away s r t

-- A write request, in each state.
abbrev pub write_requested : HomeState → Scene → ℕ → ℕ → Ruling
write_requested ReadOnly s r t = cond (others s.directory r t == 0) (write_unshared s r t) (write_shared s r t)
write_requested ReadWrite s r t = recalled WriteTransaction s r t
write_requested ReadTransaction s r t = turned_away s r t
write_requested WriteTransaction s r t = turned_away s r t

-- A replacement, in each state.
abbrev pub replacement_came : HomeState → Scene → ℕ → ℕ → ℕ → Ruling
replacement_came ReadOnly s r t v = refuses OutOfTurn
replacement_came ReadWrite s r t v = replaced s r t v
replacement_came ReadTransaction s r t v = value_kept s v
replacement_came WriteTransaction s r t v = value_kept s v

-- An update, in each state.
abbrev pub update_came : HomeState → Scene → ℕ → ℕ → Ruling
update_came ReadOnly s r v = refuses OutOfTurn
update_came ReadWrite s r v = refuses OutOfTurn
update_came ReadTransaction s r v = finished ReadOnly ReadData s r v
update_came WriteTransaction s r v = finished ReadWrite WriteData s r v

-- An acknowledgement, in each state.
abbrev pub acknowledged : HomeState → Scene → ℕ → Ruling
acknowledged ReadOnly s r = refuses OutOfTurn
acknowledged ReadWrite s r = refuses OutOfTurn
acknowledged ReadTransaction s r = finished ReadOnly ReadData s r s.entry.value
acknowledged WriteTransaction s r =
    cond (nat_lt 1 s.entry.awaited) (counted_down s) (finished ReadWrite WriteData s r s.entry.value)

-- The entry's state and the kind of the message together.
abbrev pub ruled : Kind → Scene → ℕ → ℕ → ℕ → Ruling
ruled ReadRequest s r t v = read_requested s.entry.state s r t
ruled WriteRequest s r t v = write_requested s.entry.state s r t
ruled Replacement s r t v = replacement_came s.entry.state s r t v
ruled Update s r t v = update_came s.entry.state s r v
ruled Acknowledgement s r t v = acknowledged s.entry.state s r
ruled ReadData s r t v = refuses OutOfTurn
ruled WriteData s r t v = refuses OutOfTurn
ruled Invalidate s r t v = refuses OutOfTurn
ruled Busy s r t v = refuses OutOfTurn
