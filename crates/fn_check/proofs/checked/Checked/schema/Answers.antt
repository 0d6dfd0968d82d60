use Rattle.std.proofs.Common.{◌≡◌, sym, subst}
use Rattle.cv_keys.specs.declared.schema.Schema.{Schema}
use Rattle.fn_check.specs.Rooms.{HasRoom}
use Rattle.fn_check.proofs.Rooms.{checked_room}
use Rattle.fn_tree.specs.SyntaxViews.{module_view}
use Rattle.fn_check.proofs.checked.Checked.schema.Goals as goal

pub returns-clause-room : goal.returns-clause-room
returns-clause-room c =
    subst (λ (s : Schema). HasRoom s) (sym c.args.self.now.tables) (checked_room (module_view c.args.self.now.tree) c.args.self.now.meets)
