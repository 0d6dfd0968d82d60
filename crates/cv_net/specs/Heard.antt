-- What a read of a socket comes to.
use Rattle.std.specs.Prelude.{◌≡◌, Result, Ok, Err}
use Rattle.std.specs.IoError.{error_kind}
use Rattle.std.specs.declared.io.Error.{Error as IoError}
use Rattle.std.specs.declared.io.ErrorKind.TheVariants.{WouldBlock}
use Rattle.cv_outside.specs.declared.link.LinkFail.{LinkFail}
use Rattle.cv_outside.specs.declared.link.LinkFail.TheVariants as fail
use Rattle.tungstenite.specs.declared.error.Error.{Error}
use Rattle.tungstenite.specs.declared.error.Error.TheVariants as error
use Rattle.tungstenite.specs.declared.message.Message.{Message}
use Rattle.tungstenite.specs.declared.message.Message.TheVariants as message
use Rattle.cv_net.specs.declared.heard.Heard.{Heard}
use Rattle.cv_net.specs.declared.heard.Heard.TheVariants as heard

-- a text is passed on, a ping and a pong aren't, and a binary message is a fault
abbrev pub message_heard : Message → Heard
message_heard (message.Text text) = heard.Text text
message_heard (message.Binary bytes) = heard.Fault
message_heard (message.Ping bytes) = heard.Quiet
message_heard (message.Pong bytes) = heard.Quiet
message_heard (message.Close frame) = heard.Closed

abbrev pub IsBlocked : IoError → Type 0
IsBlocked cause = error_kind cause ≡ WouldBlock

-- a stream that would block is no fault, nor are the end of a close and want of memory
abbrev pub IsErrorHeard : Error → Heard → Type 0
IsErrorHeard error.ConnectionClosed found = found ≡ heard.Closed
IsErrorHeard error.OutOfMemory found = found ≡ heard.Memory
IsErrorHeard (error.Io cause) found =
    (IsBlocked cause → found ≡ heard.Quiet) × ((IsBlocked cause → ⊥) → found ≡ heard.Fault)
IsErrorHeard other found = found ≡ heard.Fault

abbrev pub IsHeard : Result Message Error → Heard → Type 0
IsHeard (Ok message) found = found ≡ message_heard message
IsHeard (Err error) found = IsErrorHeard error found

-- a send that fails is a fault, but for want of memory
abbrev pub error_sent : Error → LinkFail
error_sent error.OutOfMemory = fail.Memory
error_sent other = fail.Failed

abbrev pub IsSent : {T : Type 0} → Result T Error → Result T LinkFail → Type 0
IsSent (Ok done) answer = answer ≡ Ok done
IsSent (Err error) answer = answer ≡ Err (error_sent error)
