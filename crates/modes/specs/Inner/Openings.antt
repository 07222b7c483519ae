-- An opening's answer as a number and a session.
use Rattle.std.specs.Prelude.{Result, Ok, Err}
use Rattle.questions.specs.declared.refusal.Refusal.{Refusal}
use Rattle.questions.specs.Refusals.{number_of}
use Rattle.modes.specs.declared.session.Session.{Session}
use Rattle.modes.specs.declared.session.Opened.{Opened}
use Rattle.modes.specs.Sessions.{refused_session}

abbrev pub opened_in : Result Session Refusal → Opened
opened_in (Ok session) = record { number = 0; session = session }
opened_in (Err refusal) = record { number = number_of refusal; session = refused_session }
