pub mod FirstTouch
