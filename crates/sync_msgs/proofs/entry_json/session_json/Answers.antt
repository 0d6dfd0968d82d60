use Rattle.sync_msgs.proofs.entry_json.session_json.Goals as goal

pub returns : goal.returns
returns c = rw (c.encode_lower-text.ensures.text, c.hyphenated.ensures, c.from_u128.ensures) at c.text_json.ensures
