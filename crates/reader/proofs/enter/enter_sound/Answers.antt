-- On a ready index the call without the check is the single call.
use Rattle.reader.proofs.Trusting.{entry_made}
use Rattle.reader.proofs.enter.enter_sound.Goals as goal

pub returns : goal.returns
returns c =
    entry_made _ c.args.hash c.args.key c.args.place c.requires c.insert_sound-inserted.ensures c.raise.ensures
