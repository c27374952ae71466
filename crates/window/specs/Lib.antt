-- What is promised of the window: `Window` what it holds and how each call alters that, `Answer` what document 01's table says of each answer.
pub mod Answer
pub mod Window
